use Rattle.std.proofs.Common.{refl}
use Rattle.hierarchy.specs.Dimensions.{product, up}
use Rattle.hierarchy.specs.Levels.{same, finest}
use Rattle.hierarchy.specs.Places.{place_up, place_at}
use Rattle.totals.specs.Tables.{before, put, table}
use Rattle.totals.proofs.theorems.worked_examples.Goals as goal

-- the checker computes each table
pub returns : goal.returns
unfolding product up same finest place_up place_at before put table
returns c = (refl, refl, refl, refl)
