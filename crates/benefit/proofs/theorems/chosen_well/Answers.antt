use Rattle.benefit.proofs.theorems.chosen_well.Goals as goal
use Rattle.benefit.proofs.Choice.{chosen_well}

pub returns : goal.returns
returns c = chosen_well
