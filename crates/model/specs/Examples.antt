-- A shop with two dimensions, worked out by hand: branches, of which two make a town and two towns a county, and days, of which
-- seven make a week. Assumes nothing.
use Rattle.std.specs.Prelude.{◌≡◌, ℕ, ◌+◌, ◌*◌, List, [], ◌∷◌}
use Rattle.hierarchy.specs.Dimensions.{Dims}
use Rattle.replies.specs.declared.Refusal.TheVariants.{NoSuchFact, FinestStays}
use Rattle.totals.specs.Tables.{Cell}
use Rattle.model.specs.House.{House, Limits, Deed, insert, delete, keep, drop_table, ask, Told, shown, refused, empty, step, told, end}

abbrev pub branches_and_days : Dims
branches_and_days = (2 ∷ 2 ∷ []) ∷ (7 ∷ []) ∷ []

abbrev pub room : Limits
room = record { facts = 256; groups = 64 }

-- the sales of branches on days, each with its amount, in the order in which they come
abbrev pub sales : List Deed
sales =
    insert (0 ∷ 0 ∷ 5 ∷ []) ∷ insert (1 ∷ 3 ∷ 2 ∷ []) ∷ insert (1 ∷ 3 ∷ 4 ∷ []) ∷ insert (2 ∷ 8 ∷ 1 ∷ []) ∷ insert (5 ∷ 9 ∷ 7 ∷ [])
    ∷ insert (5 ∷ 10 ∷ 3 ∷ []) ∷ []

-- the shop after these; with a table by town and week kept too; and after one of the sales is taken back
abbrev pub shop : House
shop = end branches_and_days room (empty branches_and_days) sales

abbrev pub kept_shop : House
kept_shop = step branches_and_days room shop (keep (1 ∷ 1 ∷ []))

abbrev pub later_shop : House
later_shop = step branches_and_days room kept_shop (delete (1 ∷ 3 ∷ 2 ∷ []))

-- a question with a lent row that has room for a full table
abbrev asked : House → ℕ → ℕ → Told
asked h l m = told branches_and_days room h (ask (l ∷ m ∷ []) (2 + 1 + 4 * 64))

-- a group at a place, with how many facts it has and their sum
abbrev group : ℕ → ℕ → ℕ → ℕ → Cell
group x y count sum = record { place = x ∷ y ∷ []; measure = record { count = count; sum = sum } }

-- by branch and day, by town and week, by county and week, and all together; then from fewer groups; then with a sale less
abbrev pub Worked : Type 0
Worked =
    (asked shop 0 0 ≡ shown (group 0 0 1 5 ∷ group 1 3 2 6 ∷ group 2 8 1 1 ∷ group 5 9 1 7 ∷ group 5 10 1 3 ∷ []) 5)
    × (asked shop 1 1 ≡ shown (group 0 0 3 11 ∷ group 1 1 1 1 ∷ group 2 1 2 10 ∷ []) 5)
    × (asked shop 2 1 ≡ shown (group 0 0 3 11 ∷ group 0 1 1 1 ∷ group 1 1 2 10 ∷ []) 5)
    × (asked shop 3 2 ≡ shown (group 0 0 6 22 ∷ []) 5)
    × (asked kept_shop 2 1 ≡ shown (group 0 0 3 11 ∷ group 0 1 1 1 ∷ group 1 1 2 10 ∷ []) 3)
    × (asked later_shop 1 1 ≡ shown (group 0 0 2 9 ∷ group 1 1 1 1 ∷ group 2 1 2 10 ∷ []) 3)
    × (told branches_and_days room later_shop (delete (1 ∷ 3 ∷ 2 ∷ [])) ≡ refused NoSuchFact)
    × (told branches_and_days room later_shop (drop_table (0 ∷ 0 ∷ [])) ≡ refused FinestStays)
