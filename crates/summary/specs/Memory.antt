-- How a table lies in memory: its levels, one a dimension; how many groups it has; the groups, one behind the other, in order of
-- places. Behind them memory may hold anything. w is the number of dimensions. Assumes nothing: these are definitions.
use Rattle.std.specs.Prelude.{◌≡◌, ℕ, ◌+◌, ◌-◌, ◌*◌, ◌^◌, ◌<◌, ◌≤◌, Bool, true, false, not, ◌&&◌, ◌||◌, List, [], ◌∷◌, ◌++◌, length, take, drop, Ok, Err, Result, ◌==◌, nat_le, nat_lt, slice_index, slice_index_or}
use Rattle.std.specs.declared.cmp.Ordering.TheVariants.{Less, Equal, Greater}
use Rattle.std.specs.declared.cmp.Ordering.{Ordering}
use Rattle.std.specs.List.{flat_map}
use Rattle.std.specs.Coded.{le_prop}
use denote.Struct.Props.{props}
use Rattle.hierarchy.specs.Dimensions.{Dims, Row}
use Rattle.hierarchy.specs.Levels.{same}
use Rattle.hierarchy.specs.Parts.{parts}
use Rattle.totals.specs.Tables.{Measure, Cell, Table, before, put, rolled}
use Rattle.totals.specs.Counts.{nothing, at}
use Rattle.totals.specs.Promises.{InOrder, NoneEmpty}
use Rattle.summary.specs.declared.group.Group.{Group}

-- how many numbers a group takes: its place, the count, the sum
abbrev pub stride : ℕ → ℕ
stride w = w + 2

-- where the i-th group starts
abbrev pub start : ℕ → ℕ → ℕ
start w i = w + 1 + stride w * i

-- one group, read and written
abbrev pub cell_in : ℕ → List ℕ → Cell
cell_in w xs = record { place = take w xs; measure = record { count = slice_index xs w; sum = slice_index xs (w + 1) } }

abbrev pub cell_out : Cell → List ℕ
cell_out g = g.place ++ (g.measure.count ∷ (g.measure.sum ∷ []))

-- groups one behind the other
abbrev pub cells_in : ℕ → ℕ → List ℕ → Table
cells_in w n xs = parts (cell_in w) (stride w) n xs

abbrev pub cells_out : Table → List ℕ
cells_out t = flat_map cell_out t

-- what a row of numbers holds: levels, the number of groups, the groups
abbrev pub levels_in : ℕ → List ℕ → Row
levels_in w xs = take w xs

abbrev pub count_in : ℕ → List ℕ → ℕ
count_in w xs = slice_index xs w

abbrev pub table_in : ℕ → List ℕ → Table
table_in w xs = cells_in w (count_in w xs) (drop (w + 1) xs)

-- a table rolled up from the levels of its row
abbrev pub rolled_in : ℕ → Dims → Row → List ℕ → Table
rolled_in w ss ms xs = rolled ss (levels_in w xs) ms (table_in w xs)

-- the row of a table, and what lies behind it
abbrev pub row_out : Row → Table → List ℕ → List ℕ
row_out ls t rest = ls ++ (length t ∷ (cells_out t ++ rest))

-- a row in which levels and a table were written: all that lies behind the groups is as it was
abbrev pub row_over : ℕ → Row → Table → List ℕ → List ℕ
row_over w ls t xs = row_out ls t (drop (start w (length t)) xs)

-- a row whose groups are now those of t, at the levels that it had
abbrev pub holding : ℕ → Table → List ℕ → List ℕ
holding w t xs = row_over w (levels_in w xs) t xs

-- the groups that a row says it has lie in the row
abbrev pub Whole : ℕ → List ℕ → Type 0
Whole w xs = start w (count_in w xs) ≤ length xs

-- there is room for one group more
abbrev pub has_room : ℕ → List ℕ → Bool
has_room w xs = nat_le (start w (count_in w xs + 1)) (length xs)

-- a row that holds a table: its groups lie in the row, in order, and none is empty
pub record Sound (w : ℕ) (xs : List ℕ) : Type 0 where
  pub whole : Whole w xs
  pub ordered : InOrder (table_in w xs)
  pub filled : NoneEmpty (table_in w xs)

-- that a row is sound can be so in one way only
pub sound_prop : (w : ℕ) (xs : List ℕ) → IsProp (Sound w xs)
sound_prop w xs p q =
    let ordered : IsProp (InOrder (table_in w xs)) = hlevel props in
    let filled : IsProp (NoneEmpty (table_in w xs)) = hlevel props in
    λ i. record { whole = le_prop p.whole q.whole i; ordered = ordered p.ordered q.ordered i; filled = filled p.filled q.filled i }

-- every place has one number a dimension
abbrev pub Wide : ℕ → Table → Type 0
Wide w t = (i : ℕ) (g : Cell) → i < length t → length (slice_index_or t i g).place ≡ w

-- a group as the code has it, as the proofs see it: the numbers of its place past the last dimension do not count
abbrev pub cell_of : ℕ → Group → Cell
cell_of w g = record { place = take w g.place; measure = record { count = g.count; sum = g.sum } }

-- where there is none
abbrev pub none : Cell
none = record { place = []; measure = nothing }

-- how two places stand to one another
abbrev pub Compared : Row → Row → Ordering → Type 0
Compared p q Less = before p q ≡ true
Compared p q Equal = p ≡ q
Compared p q Greater = before q p ≡ true

-- there is a group at a place
unfoldable pub held : Row → Table → Bool
held p [] = false
held p (g ∷ gs) = same p g.place || held p gs

-- where a place stands in a table, or where it would
abbrev pub Stands : Row → Table → ℕ → Type 0
Stands p t i = (i < length t) × ((slice_index_or t i none).place ≡ p)

abbrev pub WouldStand : Row → Table → ℕ → Type 0
WouldStand p t i =
    (i ≤ length t) × ((j : ℕ) → j < i → before (slice_index_or t j none).place p ≡ true)
    × ((j : ℕ) → i ≤ j → j < length t → before p (slice_index_or t j none).place ≡ true)

abbrev pub Found : Row → Table → Result ℕ ℕ → Type 0
Found p t (Ok i) = Stands p t i
Found p t (Err i) = WouldStand p t i

-- facts come to a row, as one group: the table is then this, if one stands there or there is room for one more
abbrev pub put_in : ℕ → Group → List ℕ → Table
put_in w g xs = put (cell_of w g).place (cell_of w g).measure (table_in w xs)

abbrev pub can_put : ℕ → Group → List ℕ → Bool
can_put w g xs = held (cell_of w g).place (table_in w xs) || has_room w xs

-- and the numbers hold what there is then at the place
abbrev pub PutFits : ℕ → Group → List ℕ → Type 0
PutFits w g xs =
    ((at (cell_of w g).place (table_in w xs)).count + g.count < 2 ^ 64) × ((at (cell_of w g).place (table_in w xs)).sum + g.sum < 2 ^ 64)

-- a group that no table has: it is empty, its count or sum is too large, or it does not come after the one before
abbrev pub out_of_bounds : Measure → Bool
out_of_bounds m = m.count == 0 || (nat_le (2 ^ 32) m.count || nat_le (2 ^ 50) m.sum)

abbrev pub bad : Table → ℕ → Bool
bad t i = out_of_bounds (slice_index_or t i none).measure || (nat_lt 0 i && not (before (slice_index_or t (i - 1) none).place (slice_index_or t i none).place))

abbrev pub AllGood : Table → Type 0
AllGood t = (j : ℕ) → j < length t → bad t j ≡ false

abbrev pub FirstBad : Table → ℕ → Type 0
FirstBad t i = (i < length t) × (bad t i ≡ true) × ((j : ℕ) → j < i → bad t j ≡ false)
