use Rattle.journal.proofs.Theory.{read_back}
use Rattle.journal.proofs.theorems.read_back.Goals as goal

pub returns : goal.returns
returns c = read_back
