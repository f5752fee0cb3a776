use Rattle.hierarchy.proofs.Theory.{every_once}
use Rattle.hierarchy.proofs.theorems.every_once.Goals as goal

pub returns : goal.returns
returns c = every_once
