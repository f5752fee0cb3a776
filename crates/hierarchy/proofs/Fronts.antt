-- Only one number a dimension counts of a place that is taken up. Assumes nothing.
use Rattle.std.proofs.Common.{◌≡◌, [], ◌∷◌, length, take, refl, ap}
use Rattle.hierarchy.specs.Dimensions.{Dims, Row, up}
use Rattle.hierarchy.specs.Places.{place_up}

pub place_up_take : (ss : Dims) (ls ms ns : Row) → place_up ss ls ms (take (length ss) ns) ≡ place_up ss ls ms ns
unfolding place_up
place_up_take [] ls ms ns = refl
place_up_take (fs ∷ ss) [] ms ns = refl
place_up_take (fs ∷ ss) (l ∷ ls) [] ns = refl
place_up_take (fs ∷ ss) (l ∷ ls) (m ∷ ms) [] = refl
place_up_take (fs ∷ ss) (l ∷ ls) (m ∷ ms) (n ∷ ns) = ap (λ xs. up fs l m n ∷ xs) (place_up_take ss ls ms ns)
