-- Rows of levels, one level a dimension. Assumes nothing: these are definitions.
use Rattle.std.specs.Prelude.{ℕ, zero, suc, ◌+◌, ◌*◌, ◌/◌, ◌%◌, Bool, true, false, cond, ◌&&◌, List, [], ◌∷◌, map, length, ◌==◌, nat_le}
use Rattle.std.specs.List.{range_with_len, flat_map}
use Rattle.hierarchy.specs.Dimensions.{Dims, Row, last_level}

-- levels that are there: one a dimension, none behind its last
unfoldable pub are_levels : Dims → Row → Bool
are_levels [] [] = true
are_levels [] (l ∷ ls) = false
are_levels (fs ∷ ss) [] = false
are_levels (fs ∷ ss) (l ∷ ls) = nat_le l (last_level fs) && are_levels ss ls

-- levels that are no coarser than others: one a dimension, each at most the other's
unfoldable pub no_coarser : Dims → Row → Row → Bool
no_coarser [] [] [] = true
no_coarser [] [] (m ∷ ms) = false
no_coarser [] (l ∷ ls) ms = false
no_coarser (fs ∷ ss) [] ms = false
no_coarser (fs ∷ ss) (l ∷ ls) [] = false
no_coarser (fs ∷ ss) (l ∷ ls) (m ∷ ms) = nat_le l m && no_coarser ss ls ms

-- the finest levels: 0 in each dimension
unfoldable pub finest : Dims → Row
finest [] = []
finest (fs ∷ ss) = 0 ∷ finest ss

-- all levels in order: the first dimension changes slowest, the finest level comes first
unfoldable pub every : Dims → List Row
every [] = [] ∷ []
every (fs ∷ ss) = flat_map (λ l. map (λ ls. l ∷ ls) (every ss)) (range_with_len 0 (length fs + 2))

-- two rows are the same, number by number
unfoldable pub same : Row → Row → Bool
same [] [] = true
same [] (y ∷ ys) = false
same (x ∷ xs) [] = false
same (x ∷ xs) (y ∷ ys) = x == y && same xs ys

-- how often a row is in a list
unfoldable pub times : Row → List Row → ℕ
times r [] = 0
times r (x ∷ xs) = cond (same r x) 1 0 + times r xs

-- how many levels there are in dimension i, or 1 where there is no such dimension
unfoldable pub levels_in_dimension : Dims → ℕ → ℕ
levels_in_dimension [] i = 1
levels_in_dimension (fs ∷ ss) zero = length fs + 2
levels_in_dimension (fs ∷ ss) (suc i) = levels_in_dimension ss i

-- how many rows of levels there are
unfoldable pub total_levels : Dims → ℕ
total_levels [] = 1
total_levels (fs ∷ ss) = (length fs + 2) * total_levels ss

-- the i-th row of levels in that order
unfoldable pub nth_levels : Dims → ℕ → Row
nth_levels [] i = []
nth_levels (fs ∷ ss) i = (i / total_levels ss) ∷ nth_levels ss (i % total_levels ss)
