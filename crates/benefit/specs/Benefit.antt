-- What kept tables save, and the greedy choice. Sizes are a function of levels: how many groups the table there has. Assumes nothing.
use Rattle.std.specs.Prelude.{ℕ, zero, suc, ◌-◌, cond, List, [], ◌∷◌, sum_by, nat_lt}
use Rattle.hierarchy.specs.Dimensions.{Dims, Row}
use Rattle.hierarchy.specs.Levels.{finest, every}
use Rattle.totals.specs.Cost.{cost}

-- what tables save: over all questions, each once, the size of the finest table less what the question costs
unfoldable pub saved : Dims → (Row → ℕ) → List Row → ℕ
saved ss sz ks = sum_by (λ l. sz (finest ss) - cost ss sz l ks) (every ss)

-- the better of the best so far and the next levels, the first of equals
abbrev pub better : Dims → (Row → ℕ) → List Row → Row → Row → Row
better ss sz ks b l = cond (nat_lt (saved ss sz (b ∷ ks)) (saved ss sz (l ∷ ks))) l b

unfoldable pub best_of : Dims → (Row → ℕ) → List Row → Row → List Row → Row
best_of ss sz ks b [] = b
best_of ss sz ks b (l ∷ ls) = best_of ss sz ks (better ss sz ks b l) ls

-- the levels that save most together with those taken before, the first of several in the order of all levels
unfoldable pub best : Dims → (Row → ℕ) → List Row → Row
best ss sz ks = best_of ss sz ks (finest ss) (every ss)

-- the choice of n, one after the other, the latest first
unfoldable pub chosen : Dims → (Row → ℕ) → ℕ → List Row
chosen ss sz zero = []
chosen ss sz (suc n) = best ss sz (chosen ss sz n) ∷ chosen ss sz n
