use Rattle.benefit.proofs.theorems.less_and_less.Goals as goal
use Rattle.benefit.proofs.Choice.{less_and_less}

pub returns : goal.returns
returns c = less_and_less
