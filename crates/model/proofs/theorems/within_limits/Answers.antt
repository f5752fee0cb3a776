use Rattle.model.proofs.theorems.within_limits.Goals as goal
use Rattle.model.proofs.Theory.{within_limits}

pub returns : goal.returns
returns c = within_limits
