use Rattle.std.proofs.Common.{refl}
use Rattle.hierarchy.specs.Dimensions.{product, up}
use Rattle.hierarchy.specs.Levels.{no_coarser, finest, every, same}
use Rattle.hierarchy.specs.Places.{place_up, place_at}
use Rattle.totals.specs.Tables.{before, put, table}
use Rattle.totals.specs.Cost.{cost}
use Rattle.benefit.specs.Benefit.{saved, best_of, best, chosen}
use Rattle.benefit.proofs.theorems.worked_examples.Goals as goal

-- each is computed
pub returns : goal.returns
unfolding product up no_coarser finest every same place_up place_at before put table cost saved best_of best chosen
returns c = (refl, refl, refl, refl, refl, refl, refl, refl, refl)
