-- A whole file: the dimensions, and then deeds to an empty warehouse. n is the length of the row that is lent to every ask. Assumes
-- nothing: these are definitions.
use Rattle.std.specs.Prelude.{ℕ, Bool, true, List, ◌++◌, length, Some, None, Option}
use Rattle.hierarchy.specs.Dimensions.{Dims, Row}
use Rattle.hierarchy.specs.Reading.{dims_in, dims_refusal}
use Rattle.replies.specs.declared.Refusal.{Refusal}
use Rattle.replies.specs.declared.Reply.TheVariants.{Refused}
use Rattle.model.specs.House.{Limits, Deed, empty}
use Rattle.formats.specs.Bytes.{Bytes, sides_of, behind_sides, numbers_out}
use Rattle.journal.specs.Deeds.{deeds_in, is_whole, deeds_out}
use Rattle.formats.specs.Text.{reply_line}
use Rattle.journal.specs.Replies.{replies}

abbrev pub day_dims : Bytes → Dims
day_dims bs = dims_in (sides_of bs)

abbrev pub day_deeds : ℕ → Bytes → List Deed
day_deeds n bs = deeds_in (length (day_dims bs)) n (behind_sides bs)

-- where the dimensions are refused, that is all that is said, and nothing else is read
abbrev pub text_or_refusal : Option Refusal → List ℕ → List ℕ
text_or_refusal None text = text
text_or_refusal (Some r) text = reply_line (Refused r)

abbrev pub day_text : Limits → ℕ → Bytes → List ℕ
day_text lim n bs = text_or_refusal (dims_refusal (sides_of bs)) (replies (day_dims bs) lim (empty (day_dims bs)) (day_deeds n bs))

abbrev pub whole_or_refused : Option Refusal → Bool → Bool
whole_or_refused None b = b
whole_or_refused (Some r) b = true

-- no byte that is read is left over: the file ends right behind a deed, or its dimensions are refused
abbrev pub day_whole : Bytes → Bool
day_whole bs = whole_or_refused (dims_refusal (sides_of bs)) (is_whole (length (day_dims bs)) (behind_sides bs))

-- a day, written
abbrev pub day_out : Row → List Deed → Bytes
day_out xs ds = numbers_out xs ++ deeds_out ds
