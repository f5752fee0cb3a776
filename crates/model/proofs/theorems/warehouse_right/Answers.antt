use Rattle.model.proofs.theorems.warehouse_right.Goals as goal
use Rattle.model.proofs.Theory.{warehouse_right}

pub returns : goal.returns
returns c = warehouse_right
