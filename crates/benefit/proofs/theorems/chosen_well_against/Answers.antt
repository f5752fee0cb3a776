use Rattle.benefit.proofs.theorems.chosen_well_against.Goals as goal
use Rattle.benefit.proofs.Choice.{chosen_well_against}

pub returns : goal.returns
returns c = chosen_well_against
