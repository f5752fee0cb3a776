-- What the choice promises, for any sizes of levels and so for any facts. Each is a statement; a function's contract asks for its proof.
use Rattle.std.specs.Prelude.{◌≡◌, ℕ, ◌+◌, ◌-◌, ◌*◌, ◌^◌, ◌<◌, ◌≤◌, true, List, [], ◌∷◌, length, replicate, slice_index_or}
use Rattle.hierarchy.specs.Dimensions.{Dims, Row}
use Rattle.hierarchy.specs.Levels.{are_levels, finest}
use Rattle.benefit.specs.Benefit.{saved, best, chosen}

-- each of the one list is among the other
abbrev pub Among : List Row → List Row → Type 0
Among ks js = (i : ℕ) → i < length ks → (m : ℕ) × (m < length js) × (slice_index_or js m [] ≡ slice_index_or ks i [])

-- each of the list is a row of levels that is there
abbrev pub AllThere : Dims → List Row → Type 0
AllThere ss ks = (i : ℕ) → i < length ks → are_levels ss (slice_index_or ks i []) ≡ true

-- a table more never saves less, and the more there are, the less one more saves
abbrev pub LessAndLess : Type 0
LessAndLess =
    (ss : Dims) (sz : Row → ℕ) (ks js : List Row) (l : Row) → Among ks js
    → (saved ss sz ks ≤ saved ss sz js) × (saved ss sz (l ∷ js) + saved ss sz ks ≤ saved ss sz (l ∷ ks) + saved ss sz js)

-- the n chosen save at least the share 1 - (1 - 1/n)^n of what any other n save; both sides are multiplied by n^n
abbrev pub ChosenWell : Type 0
ChosenWell =
    (ss : Dims) (sz : Row → ℕ) (n : ℕ) (others : List Row) → 0 < n → length others ≡ n → AllThere ss others
    → (n ^ n - (n - 1) ^ n) * saved ss sz others ≤ n ^ n * saved ss sz (chosen ss sz n)

-- and i chosen against any number m of others
abbrev pub ChosenWellAgainst : Type 0
ChosenWellAgainst =
    (ss : Dims) (sz : Row → ℕ) (i m : ℕ) (others : List Row) → 0 < m → length others ≡ m → AllThere ss others
    → (m ^ i - (m - 1) ^ i) * saved ss sz others ≤ m ^ i * saved ss sz (chosen ss sz i)

-- two chosen save three quarters of what any other two save
abbrev pub TwoSaveThreeQuarters : Type 0
TwoSaveThreeQuarters =
    (ss : Dims) (sz : Row → ℕ) (others : List Row) → length others ≡ 2 → AllThere ss others
    → 3 * saved ss sz others ≤ 4 * saved ss sz (chosen ss sz 2)

-- and any n at least 63 in a hundred
abbrev pub SixtyThreeInAHundred : Type 0
SixtyThreeInAHundred =
    (ss : Dims) (sz : Row → ℕ) (n : ℕ) (others : List Row) → 0 < n → length others ≡ n → AllThere ss others
    → 63 * saved ss sz others ≤ 100 * saved ss sz (chosen ss sz n)

-- what is chosen is there, and there are n
abbrev pub ChosenThere : Type 0
ChosenThere = (ss : Dims) (sz : Row → ℕ) (n : ℕ) → (length (chosen ss sz n) ≡ n) × AllThere ss (chosen ss sz n)

-- at each turn no levels that are there save more together with those taken before
abbrev pub BestSavesMost : Type 0
BestSavesMost =
    (ss : Dims) (sz : Row → ℕ) (ks : List Row) (l : Row) → are_levels ss l ≡ true
    → saved ss sz (l ∷ ks) ≤ saved ss sz (best ss sz ks ∷ ks)

-- the finest table n times saves nothing
abbrev pub FinestSavesNothing : Type 0
FinestSavesNothing = (ss : Dims) (sz : Row → ℕ) (n : ℕ) → saved ss sz (replicate n (finest ss)) ≡ 0
