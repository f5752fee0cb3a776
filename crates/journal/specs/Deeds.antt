-- The deeds of a file: a byte that says which, and the numbers that come with it. w is the number of dimensions, and n the length of
-- the row that is lent to every ask. Assumes nothing: these are definitions.
use Rattle.std.specs.Prelude.{◌≡◌, ℕ, zero, suc, ◌+◌, ◌*◌, ◌<◌, ◌≤◌, Bool, true, cond, ◌&&◌, List, [], ◌∷◌, length, drop, Ok, Err, Result, ◌==◌, nat_le, slice_index}
use Rattle.std.specs.List.{flat_map}
use Rattle.hierarchy.specs.Dimensions.{Row}
use Rattle.model.specs.House.{Deed, insert, delete, keep, drop_table, ask}
use Rattle.formats.specs.Bytes.{Bytes, numbers, numbers_out}
use Rattle.journal.specs.declared.deed.Kind.{Kind}
use Rattle.journal.specs.declared.deed.NoDeed.{NoDeed}
use Rattle.journal.specs.declared.deed.Kind.TheVariants.{Insert, Delete, Keep, Drop, Ask}

-- which deed a byte from 0 to 4 says
abbrev pub kind_of : ℕ → Kind
kind_of b = cond (b == 0) Insert (cond (b == 1) Delete (cond (b == 2) Keep (cond (b == 3) Drop Ask)))

-- a byte says a deed, or that it is none
abbrev pub Says : ℕ → Result Kind NoDeed → Type 0
Says b (Ok k) = (b ≤ 4) × (k ≡ kind_of b)
Says b (Err none) = (4 < b) × (none.0 ≡ b)

-- how many numbers come with it: a fact has an amount behind its place, levels have none
abbrev pub row_length : ℕ → Kind → ℕ
row_length w Insert = w + 1
row_length w Delete = w + 1
row_length w Keep = w
row_length w Drop = w
row_length w Ask = w

abbrev pub deed_of : ℕ → Kind → Row → Deed
deed_of n Insert xs = insert xs
deed_of n Delete xs = delete xs
deed_of n Keep xs = keep xs
deed_of n Drop xs = drop_table xs
deed_of n Ask xs = ask xs n

-- bytes begin with a deed: the first byte says one, and its numbers are there
abbrev pub is_deed : ℕ → Bytes → Bool
is_deed w bs = nat_le 1 (length bs) && (nat_le (slice_index bs 0) 4 && nat_le (1 + 4 * row_length w (kind_of (slice_index bs 0))) (length bs))

-- this deed, and how many numbers come with it
abbrev pub size_in : ℕ → Bytes → ℕ
size_in w bs = row_length w (kind_of (slice_index bs 0))

abbrev pub deed_in : ℕ → ℕ → Bytes → Deed
deed_in w n bs = deed_of n (kind_of (slice_index bs 0)) (numbers (size_in w bs) (drop 1 bs))

-- the deeds of bytes of which the first k are passed over, up to the first that is none or is cut short
unfoldable pub deeds_past : ℕ → ℕ → ℕ → Bytes → List Deed
deeds_past w n k [] = []
deeds_past w n (suc k) (b ∷ bs) = deeds_past w n k bs
deeds_past w n zero (b ∷ bs) = cond (is_deed w (b ∷ bs)) (deed_in w n (b ∷ bs) ∷ deeds_past w n (4 * size_in w (b ∷ bs)) bs) []

abbrev pub deeds_in : ℕ → ℕ → Bytes → List Deed
deeds_in w n bs = deeds_past w n 0 bs

-- the file ends right behind a deed
unfoldable pub whole_past : ℕ → ℕ → Bytes → Bool
whole_past w k [] = true
whole_past w (suc k) (b ∷ bs) = whole_past w k bs
whole_past w zero (b ∷ bs) = is_deed w (b ∷ bs) && whole_past w (4 * size_in w (b ∷ bs)) bs

abbrev pub is_whole : ℕ → Bytes → Bool
is_whole w bs = whole_past w 0 bs

-- deeds, written
abbrev pub deed_out : Deed → Bytes
deed_out (insert xs) = 0 ∷ numbers_out xs
deed_out (delete xs) = 1 ∷ numbers_out xs
deed_out (keep xs) = 2 ∷ numbers_out xs
deed_out (drop_table xs) = 3 ∷ numbers_out xs
deed_out (ask xs n) = 4 ∷ numbers_out xs

abbrev pub deeds_out : List Deed → Bytes
deeds_out ds = flat_map deed_out ds
