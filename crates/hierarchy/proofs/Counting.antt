-- How many rows of levels there are in at most four dimensions, and which is the i-th. Assumes nothing.
use Rattle.std.proofs.Common.{◌≡◌, ℕ, zero, suc, ◌+◌, ◌*◌, ◌/◌, ◌%◌, ◌<◌, ◌≤◌, [], ◌∷◌, length, get_or, refl, mul-le-mul, mul-one, div-one, arith}
use native.Mathlib.Nat.{mod-one, zero-div}
use Rattle.hierarchy.specs.Dimensions.{Dims, four}
use Rattle.hierarchy.specs.Levels.{levels_in_dimension, total_levels, nth_levels}

pub levels_there : (ss : Dims) (i : ℕ) → i < length ss → levels_in_dimension ss i ≡ length (get_or ss i []) + 2
unfolding levels_in_dimension
levels_there [] i h = absurd (omega arith)
levels_there (fs ∷ ss) zero h = refl
levels_there (fs ∷ ss) (suc i) h = levels_there ss i (omega arith)

pub levels_past : (ss : Dims) (i : ℕ) → length ss ≤ i → levels_in_dimension ss i ≡ 1
unfolding levels_in_dimension
levels_past [] i h = refl
levels_past (fs ∷ ss) zero h = absurd (omega arith)
levels_past (fs ∷ ss) (suc i) h = levels_past ss i (omega arith)

-- by the levels of each of four dimensions
pub total_by_four : (ss : Dims) → length ss ≤ 4
    → levels_in_dimension ss 0 * (levels_in_dimension ss 1 * (levels_in_dimension ss 2 * levels_in_dimension ss 3)) ≡ total_levels ss
unfolding levels_in_dimension total_levels
total_by_four [] h = refl
total_by_four (a ∷ []) h = refl
total_by_four (a ∷ b ∷ []) h = refl
total_by_four (a ∷ b ∷ c ∷ []) h = refl
total_by_four (a ∷ b ∷ c ∷ d ∷ []) h = simp mul-one
total_by_four (a ∷ b ∷ c ∷ d ∷ e ∷ ss) h = absurd (omega arith)

pub nth_by_four : (ss : Dims) (i : ℕ) → 1 ≤ length ss → length ss ≤ 4 →
    let b = levels_in_dimension ss 1 in
    let c = levels_in_dimension ss 2 in
    let d = levels_in_dimension ss 3 in
    let rest = i % (b * (c * d)) in
    (i / (b * (c * d))) ∷ (rest / (c * d)) ∷ (rest % (c * d) / d) ∷ (rest % (c * d) % d) ∷ [] ≡ four (nth_levels ss i)
unfolding levels_in_dimension total_levels nth_levels
nth_by_four [] i g h = absurd (omega arith)
nth_by_four (a ∷ []) i g h = simp mod-one
nth_by_four (a ∷ b ∷ []) i g h = simp (mod-one, zero-div)
nth_by_four (a ∷ b ∷ c ∷ []) i g h = simp (mod-one, zero-div)
nth_by_four (a ∷ b ∷ c ∷ d ∷ []) i g h = simp (mul-one, div-one)
nth_by_four (a ∷ b ∷ c ∷ d ∷ e ∷ ss) i g h = absurd (omega arith)

pub few_levels : (a b c d : ℕ) → 1 ≤ a → a ≤ 6 → 1 ≤ b → b ≤ 6 → 1 ≤ c → c ≤ 6 → 1 ≤ d → d ≤ 6 → (1 ≤ a * (b * (c * d))) × (a * (b * (c * d)) ≤ 1296)
few_levels a b c d p₀ p q₀ q r₀ r s₀ s =
    (mul-le-mul p₀ (mul-le-mul q₀ (mul-le-mul r₀ s₀)), mul-le-mul p (mul-le-mul q (mul-le-mul r s)))

pub some_levels : (b c d : ℕ) → 1 ≤ b → 1 ≤ c → 1 ≤ d → (0 < b * (c * d)) × (0 < c * d)
some_levels b c d p q r = (mul-le-mul p (mul-le-mul q r), mul-le-mul q r)
