-- Equal parts one behind the other in memory: groups in a table, facts in a ledger, tables in a warehouse. Assumes nothing:
-- these are definitions.
use Rattle.std.specs.Prelude.{ℕ, zero, suc, List, [], ◌∷◌, take, drop}

-- the first k parts of xs, each s numbers long, each read by f
unfoldable pub parts : {X : Type 0} → (List ℕ → X) → ℕ → ℕ → List ℕ → List X
parts f s zero xs = []
parts f s (suc k) xs = f (take s xs) ∷ parts f s k (drop s xs)
