use Rattle.benefit.proofs.theorems.best_saves_most.Goals as goal
use Rattle.benefit.proofs.Choice.{best_saves_most}

pub returns : goal.returns
returns c = best_saves_most
