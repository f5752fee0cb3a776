use Rattle.journal.proofs.Kept.{written_back}
use Rattle.journal.proofs.theorems.written_back.Goals as goal

pub returns : goal.returns
returns c = written_back
