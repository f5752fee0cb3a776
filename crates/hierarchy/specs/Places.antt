-- Places, one number a dimension, at levels. Assumes nothing: these are definitions.
use Rattle.std.specs.Prelude.{[], ◌∷◌}
use Rattle.hierarchy.specs.Dimensions.{Dims, Row, up}
use Rattle.hierarchy.specs.Levels.{finest}

-- a place at levels ls, taken up to levels ms
unfoldable pub place_up : Dims → Row → Row → Row → Row
place_up [] ls ms ns = []
place_up (fs ∷ ss) [] ms ns = []
place_up (fs ∷ ss) (l ∷ ls) [] ns = []
place_up (fs ∷ ss) (l ∷ ls) (m ∷ ms) [] = []
place_up (fs ∷ ss) (l ∷ ls) (m ∷ ms) (n ∷ ns) = up fs l m n ∷ place_up ss ls ms ns

-- a place at the finest levels, taken up to levels ms
unfoldable pub place_at : Dims → Row → Row → Row
place_at ss ms ns = place_up ss (finest ss) ms ns
