-- A table of totals: the groups of facts at some levels, in order of places. Assumes nothing: these are definitions.
use Rattle.std.specs.Prelude.{ℕ, ◌+◌, ◌-◌, Bool, true, false, cond, ◌&&◌, ◌||◌, List, [], ◌∷◌, ◌==◌, nat_le, nat_lt}
use Rattle.hierarchy.specs.Dimensions.{Dims, Row}
use Rattle.hierarchy.specs.Levels.{same}
use Rattle.hierarchy.specs.Facts.{Entry}
use Rattle.hierarchy.specs.Places.{place_up, place_at}

-- what is measured of a group of facts: how many there are, and the sum of their amounts
pub record Measure : Type 0 where
  pub count : ℕ
  pub sum : ℕ

-- a group as the proofs see it: a place, and what is measured of the facts there
pub record Cell : Type 0 where
  pub place : Row
  pub measure : Measure

abbrev pub Table : Type 0
Table = List Cell

-- of one fact with this amount
abbrev pub one : ℕ → Measure
one a = record { count = 1; sum = a }

-- of two groups together
abbrev pub join : Measure → Measure → Measure
join m n = record { count = m.count + n.count; sum = m.sum + n.sum }

-- of a group from which one fact with this amount goes
abbrev pub less : ℕ → Measure → Measure
less a m = record { count = m.count - 1; sum = m.sum - a }

-- a place comes before another: number by number, the first that differs decides
unfoldable pub before : Row → Row → Bool
before [] [] = false
before [] (y ∷ ys) = true
before (x ∷ xs) [] = false
before (x ∷ xs) (y ∷ ys) = nat_lt x y || (x == y && before xs ys)

-- facts come to a place: the group there grows, or a new one is inserted before the first that comes after it
unfoldable pub put : Row → Measure → Table → Table
put p m [] = record { place = p; measure = m } ∷ []
put p m (g ∷ gs) =
    cond (same p g.place) (record { place = g.place; measure = join g.measure m } ∷ gs)
    (cond (before p g.place) (record { place = p; measure = m } ∷ g ∷ gs) (g ∷ put p m gs))

-- one fact with an amount goes from a place; a group of no facts goes
unfoldable pub take_out : Row → ℕ → Table → Table
take_out p a [] = []
take_out p a (g ∷ gs) =
    cond (same p g.place) (cond (nat_le g.measure.count 1) gs (record { place = g.place; measure = less a g.measure } ∷ gs)) (g ∷ take_out p a gs)

-- the table of facts at levels
unfoldable pub table : Dims → Row → List Entry → Table
table ss ls [] = []
table ss ls (e ∷ es) = put (place_at ss ls e.place) (one e.amount) (table ss ls es)

-- a table at levels ls, rolled up to levels ms: each group is taken up, and groups of one place are put together
unfoldable pub rolled : Dims → Row → Row → Table → Table
rolled ss ls ms [] = []
rolled ss ls ms (g ∷ gs) = put (place_up ss ls ms g.place) g.measure (rolled ss ls ms gs)
