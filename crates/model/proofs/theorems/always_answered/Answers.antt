use Rattle.model.proofs.theorems.always_answered.Goals as goal
use Rattle.model.proofs.Theory.{always_answered}

pub returns : goal.returns
returns c = always_answered
