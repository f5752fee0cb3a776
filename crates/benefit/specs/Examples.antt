-- A worked example: towns of two branches and counties of two towns, weeks of seven days, and five facts. Assumes nothing.
use Rattle.std.specs.Prelude.{◌≡◌, ℕ, List, [], ◌∷◌}
use Rattle.hierarchy.specs.Dimensions.{Dims, Row}
use Rattle.hierarchy.specs.Facts.{Entry}
use Rattle.totals.specs.Cost.{size}
use Rattle.benefit.specs.Benefit.{saved, chosen}

abbrev pub dims : Dims
dims = (2 ∷ 2 ∷ []) ∷ (7 ∷ []) ∷ []

abbrev fact : ℕ → ℕ → ℕ → Entry
fact branch day a = record { place = branch ∷ day ∷ []; amount = a }

abbrev pub facts : List Entry
facts = fact 0 0 5 ∷ fact 1 3 4 ∷ fact 2 8 1 ∷ fact 5 9 7 ∷ fact 5 10 3 ∷ []

abbrev pub sizes : Row → ℕ
sizes = size dims facts

-- what one table saves
abbrev pub saves : ℕ → ℕ → ℕ
saves a b = saved dims sizes ((a ∷ b ∷ []) ∷ [])

-- what single tables save, and the choice of one and of two
abbrev pub Worked : Type 0
Worked =
    (saves 1 1 ≡ 12) × (saves 0 1 ≡ 8) × (saves 2 1 ≡ 8) × (saves 0 2 ≡ 4) × (saves 1 0 ≡ 0) × (saves 3 0 ≡ 0)
    × (chosen dims sizes 1 ≡ (1 ∷ 1 ∷ []) ∷ []) × (chosen dims sizes 2 ≡ (0 ∷ 1 ∷ []) ∷ (1 ∷ 1 ∷ []) ∷ [])
    × (saved dims sizes (chosen dims sizes 2) ≡ 14)
