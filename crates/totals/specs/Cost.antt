-- What a question costs: how many groups are looked at. Sizes are a function of levels. Assumes nothing: these are definitions.
use Rattle.std.specs.Prelude.{ℕ, min, cond, List, [], ◌∷◌, length}
use Rattle.hierarchy.specs.Dimensions.{Dims, Row}
use Rattle.hierarchy.specs.Levels.{no_coarser, finest}
use Rattle.hierarchy.specs.Facts.{Entry}
use Rattle.totals.specs.Tables.{table}

-- the size of levels: how many groups their table has
abbrev pub size : Dims → List Entry → Row → ℕ
size ss es ls = length (table ss ls es)

-- what a question costs where tables at levels ks are kept beside the finest: the least size of those that are no coarser
unfoldable pub cost : Dims → (Row → ℕ) → Row → List Row → ℕ
cost ss sz l [] = sz (finest ss)
cost ss sz l (k ∷ ks) = cond (no_coarser ss k l) (min (sz k) (cost ss sz l ks)) (cost ss sz l ks)
