-- A shop with two dimensions, worked out by hand: branches, of which two make a town and two towns a county, and days, of which
-- seven make a week. Assumes nothing.
use Rattle.std.specs.Prelude.{◌≡◌, ℕ, List, [], ◌∷◌}
use Rattle.hierarchy.specs.Dimensions.{Dims}
use Rattle.hierarchy.specs.Facts.{Entry}
use Rattle.totals.specs.Tables.{Cell, Table, table}

abbrev pub branches_and_days : Dims
branches_and_days = (2 ∷ 2 ∷ []) ∷ (7 ∷ []) ∷ []

-- a fact at a branch and a day, with its amount
abbrev fact : ℕ → ℕ → ℕ → Entry
fact branch day amount = record { place = branch ∷ day ∷ []; amount = amount }

-- a group at a place, with how many facts it has and their sum
abbrev group : ℕ → ℕ → ℕ → ℕ → Cell
group x y count sum = record { place = x ∷ y ∷ []; measure = record { count = count; sum = sum } }

abbrev pub sales : List Entry
sales = fact 0 0 5 ∷ fact 1 3 2 ∷ fact 1 3 4 ∷ fact 2 8 1 ∷ fact 5 9 7 ∷ fact 5 10 3 ∷ []

-- the table of the sales at a level of branches and a level of days
abbrev at_levels : ℕ → ℕ → Table
at_levels l m = table branches_and_days (l ∷ m ∷ []) sales

-- by branch and day, by town and week, by county and week, and all together
abbrev pub Worked : Type 0
Worked =
    (at_levels 0 0 ≡ group 0 0 1 5 ∷ group 1 3 2 6 ∷ group 2 8 1 1 ∷ group 5 9 1 7 ∷ group 5 10 1 3 ∷ [])
    × (at_levels 1 1 ≡ group 0 0 3 11 ∷ group 1 1 1 1 ∷ group 2 1 2 10 ∷ [])
    × (at_levels 2 1 ≡ group 0 0 3 11 ∷ group 0 1 1 1 ∷ group 1 1 2 10 ∷ [])
    × (at_levels 3 2 ≡ group 0 0 6 22 ∷ [])
