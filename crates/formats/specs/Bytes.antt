-- Numbers in a file: four bytes each, the low byte first. Assumes nothing: these are definitions.
use Rattle.std.specs.Prelude.{ℕ, ◌+◌, ◌*◌, ◌/◌, ◌%◌, min, cond, List, [], ◌∷◌, map, length, drop, nat_le, slice_index}
use Rattle.std.specs.List.{range_with_len, flat_map}
use Rattle.hierarchy.specs.Dimensions.{Row}

-- a file as it is read
abbrev pub Bytes : Type 0
Bytes = List ℕ

-- the number that bytes begin with; bytes that are missing count as 0
abbrev pub number : Bytes → ℕ
number bs = slice_index bs 0 + slice_index bs 1 * 256 + slice_index bs 2 * 65536 + slice_index bs 3 * 16777216

-- the first k numbers
abbrev pub numbers : ℕ → Bytes → Row
numbers k bs = map (λ i. number (drop (4 * i) bs)) (range_with_len 0 k)

-- a number and a row of them, written
abbrev pub number_out : ℕ → Bytes
number_out x = x % 256 ∷ x / 256 % 256 ∷ x / 65536 % 256 ∷ x / 16777216 % 256 ∷ []

abbrev pub numbers_out : Row → Bytes
numbers_out xs = flat_map number_out xs

-- how many numbers of a file are its dimensions: the count and five a dimension, or as many as there are where the file ends early.
-- Behind a count above four nothing is read, since no such dimensions are there.
abbrev pub sides_count : Bytes → ℕ
sides_count bs = min (length bs / 4) (cond (nat_le (number bs) 4) (1 + 5 * number bs) 1)

abbrev pub sides_of : Bytes → Row
sides_of bs = numbers (sides_count bs) bs

-- and what lies behind them
abbrev pub behind_sides : Bytes → Bytes
behind_sides bs = drop (4 * sides_count bs) bs
