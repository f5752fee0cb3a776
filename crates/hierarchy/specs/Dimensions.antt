-- A dimension is a hierarchy of levels, such as branch, town, county, all. Assumes nothing: these are definitions.
use Rattle.std.specs.Prelude.{ℕ, ◌+◌, ◌*◌, ◌/◌, cond, List, [], ◌∷◌, length, take, drop, nat_lt, slice_index}

-- how many of a level make one of the next, from the finest level on
abbrev pub Factors : Type 0
Factors = List ℕ

-- the dimensions of a cube
abbrev pub Dims : Type 0
Dims = List Factors

-- one number a dimension: a row of levels, or a place
abbrev pub Row : Type 0
Row = List ℕ

unfoldable pub product : List ℕ → ℕ
product [] = 1
product (f ∷ fs) = f * product fs

-- the last level, everything together: behind the finest level, 0, there is one for each factor and then this
abbrev pub last_level : Factors → ℕ
last_level fs = length fs + 1

-- a number at level l, taken up to level m: divided by the factors between; at the last level it is 0
unfoldable pub up : Factors → ℕ → ℕ → ℕ → ℕ
up fs l m n = cond (nat_lt (length fs) m) 0 (n / product (drop l (take m fs)))

-- a row of at most four numbers as an array of four: the numbers behind it are 0
abbrev pub four : Row → Row
four xs = slice_index xs 0 ∷ slice_index xs 1 ∷ slice_index xs 2 ∷ slice_index xs 3 ∷ []
