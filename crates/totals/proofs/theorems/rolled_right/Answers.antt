use Rattle.totals.proofs.theorems.rolled_right.Goals as goal
use Rattle.totals.proofs.Theory.{rolled_right}

pub returns : goal.returns
returns c = rolled_right
