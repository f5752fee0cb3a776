use Rattle.std.proofs.Common.{refl}
use Rattle.std.specs.Fmt.{digits}
use Rattle.hierarchy.specs.Dimensions.{product, up}
use Rattle.hierarchy.specs.Levels.{same, no_coarser, finest}
use Rattle.hierarchy.specs.Facts.{copies, without}
use Rattle.hierarchy.specs.Places.{place_up, place_at}
use Rattle.hierarchy.specs.Reading.{dims_from, first_bad, first_missing, first_wrong}
use Rattle.totals.specs.Tables.{before, put, take_out, rolled}
use Rattle.model.specs.House.{first_full, kept_at, better, source, step, told, end}
use Rattle.journal.specs.Deeds.{deeds_past, whole_past}
use Rattle.journal.specs.Replies.{replies}
use Rattle.journal.proofs.theorems.worked_examples.Goals as goal

-- the checker computes each text
pub returns : goal.returns
unfolding digits product up same no_coarser finest copies without place_up place_at dims_from first_bad first_missing first_wrong before put take_out rolled first_full kept_at better source step told end deeds_past whole_past replies
returns c = (refl, refl, refl, refl, refl, refl)
