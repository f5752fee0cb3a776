use Rattle.hierarchy.proofs.Theory.{level_is}
use Rattle.hierarchy.proofs.theorems.level_is.Goals as goal

pub returns : goal.returns
returns c = level_is
