use Rattle.hierarchy.proofs.Theory.{up_and_on}
use Rattle.hierarchy.proofs.theorems.up_and_on.Goals as goal

pub returns : goal.returns
returns c = up_and_on
