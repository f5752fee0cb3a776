use Rattle.model.proofs.theorems.comes_and_goes.Goals as goal
use Rattle.model.proofs.Theory.{comes_and_goes}

pub returns : goal.returns
returns c = comes_and_goes
