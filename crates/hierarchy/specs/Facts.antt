-- Facts, and lists of them, in which equal facts count. Assumes nothing: these are definitions.
use Rattle.std.specs.Prelude.{ℕ, ◌+◌, Bool, cond, ◌&&◌, List, [], ◌∷◌, ◌==◌}
use Rattle.hierarchy.specs.Dimensions.{Row}
use Rattle.hierarchy.specs.Levels.{same}

-- a fact as the proofs see it: its place at the finest levels, one number a dimension, and its amount
pub record Entry : Type 0 where
  pub place : Row
  pub amount : ℕ

-- two facts are equal: in every number of their places and in the amount
abbrev pub same_fact : Entry → Entry → Bool
same_fact d e = same d.place e.place && d.amount == e.amount

-- how often a fact is in a list
unfoldable pub copies : Entry → List Entry → ℕ
copies e [] = 0
copies e (x ∷ xs) = cond (same_fact e x) 1 0 + copies e xs

-- the list without the first fact that equals this one
unfoldable pub without : Entry → List Entry → List Entry
without e [] = []
without e (x ∷ xs) = cond (same_fact e x) xs (x ∷ without e xs)
