use Rattle.totals.proofs.theorems.any_order.Goals as goal
use Rattle.totals.proofs.Theory.{any_order}

pub returns : goal.returns
returns c = any_order
