use Rattle.totals.proofs.theorems.adds_up.Goals as goal
use Rattle.totals.proofs.Theory.{adds_up}

pub returns : goal.returns
returns c = adds_up
