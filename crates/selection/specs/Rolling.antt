-- The sizes of all levels, counted by rolling a table up. Assumes nothing: these are definitions.
use Rattle.std.specs.Prelude.{◌≡◌, ℕ, ◌<◌, true, List, length, slice_index}
use Rattle.hierarchy.specs.Dimensions.{Dims}
use Rattle.hierarchy.specs.Levels.{no_coarser, total_levels, nth_levels}
use Rattle.totals.specs.Tables.{rolled}
use Rattle.summary.specs.Memory.{levels_in, table_in, rolled_in, Sound}

-- the list has, for all levels in their order, how many groups the table of a row has when it is rolled up to them
abbrev pub RolledSizes : Dims → List ℕ → List ℕ → Type 0
RolledSizes ss xs zs =
    (length zs ≡ total_levels ss) × ((i : ℕ) → i < total_levels ss → slice_index zs i ≡ length (rolled_in (length ss) ss (nth_levels ss i) xs))

-- a row that holds the table of another, rolled up no further than the i-th levels
pub record Front (ss : Dims) (xs row : List ℕ) (i : ℕ) : Type 0 where
  pub sound : Sound (length ss) row
  pub coarser : no_coarser ss (levels_in (length ss) row) (nth_levels ss i) ≡ true
  pub holds : table_in (length ss) row ≡ rolled ss (levels_in (length ss) xs) (levels_in (length ss) row) (table_in (length ss) xs)
