use Rattle.model.proofs.theorems.never_nothing.Goals as goal
use Rattle.model.proofs.Theory.{never_nothing}

pub returns : goal.returns
returns c = never_nothing
