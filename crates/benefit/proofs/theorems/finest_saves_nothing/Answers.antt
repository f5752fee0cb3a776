use Rattle.benefit.proofs.theorems.finest_saves_nothing.Goals as goal
use Rattle.benefit.proofs.Choice.{finest_saves_nothing}

pub returns : goal.returns
returns c = finest_saves_nothing
