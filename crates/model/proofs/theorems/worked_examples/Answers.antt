use Rattle.std.proofs.Common.{refl}
use Rattle.hierarchy.specs.Dimensions.{product, up}
use Rattle.hierarchy.specs.Levels.{same, no_coarser, finest}
use Rattle.hierarchy.specs.Facts.{copies, without}
use Rattle.hierarchy.specs.Places.{place_up, place_at}
use Rattle.hierarchy.specs.Reading.{first_missing, first_wrong}
use Rattle.totals.specs.Tables.{before, put, take_out, rolled}
use Rattle.model.specs.House.{first_full, kept_at, better, source, step, told, end}
use Rattle.model.proofs.theorems.worked_examples.Goals as goal

-- the checker computes each reply
pub returns : goal.returns
unfolding product up same no_coarser finest copies without place_up place_at first_missing first_wrong before put take_out rolled first_full kept_at better source step told end
returns c = (refl, refl, refl, refl, refl, refl, refl, refl)
