use Rattle.hierarchy.proofs.Theory.{read_right}
use Rattle.hierarchy.proofs.theorems.read_right.Goals as goal

pub returns : goal.returns
returns c = read_right
