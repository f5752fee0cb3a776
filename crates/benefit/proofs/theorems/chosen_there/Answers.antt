use Rattle.benefit.proofs.theorems.chosen_there.Goals as goal
use Rattle.benefit.proofs.Choice.{chosen_there}

pub returns : goal.returns
returns c = chosen_there
