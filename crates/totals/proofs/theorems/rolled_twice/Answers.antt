use Rattle.totals.proofs.theorems.rolled_twice.Goals as goal
use Rattle.totals.proofs.Theory.{rolled_twice}

pub returns : goal.returns
returns c = rolled_twice
