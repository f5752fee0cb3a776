use Rattle.benefit.proofs.theorems.two_save_three_quarters.Goals as goal
use Rattle.benefit.proofs.Choice.{two_save_three_quarters}

pub returns : goal.returns
returns c = two_save_three_quarters
