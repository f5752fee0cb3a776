use Rattle.model.proofs.theorems.totals_right.Goals as goal
use Rattle.model.proofs.Theory.{totals_right}

pub returns : goal.returns
returns c = totals_right
