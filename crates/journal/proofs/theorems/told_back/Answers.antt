use Rattle.journal.proofs.Theory.{told_back}
use Rattle.journal.proofs.theorems.told_back.Goals as goal

pub returns : goal.returns
returns c = told_back
