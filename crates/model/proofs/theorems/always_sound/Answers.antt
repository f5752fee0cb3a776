use Rattle.model.proofs.theorems.always_sound.Goals as goal
use Rattle.model.proofs.Theory.{always_sound}

pub returns : goal.returns
returns c = always_sound
