use Rattle.std.proofs.Common.{refl}
use Rattle.hierarchy.specs.Dimensions.{product, up}
use Rattle.hierarchy.specs.Levels.{finest}
use Rattle.hierarchy.specs.Places.{place_up, place_at}
use Rattle.hierarchy.proofs.theorems.worked_examples.Goals as goal

pub returns : goal.returns
unfolding product up finest place_up place_at
returns c = (refl, refl, refl)
