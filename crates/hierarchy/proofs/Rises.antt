-- Places by the rises of their numbers. Assumes nothing.
use Rattle.std.proofs.Common.{◌≡◌, ℕ, zero, suc, ◌<◌, ◌≤◌, List, [], ◌∷◌, length, get_or, take, sym, refl, ◌∙◌, arith}
use Rattle.std.proofs.lemmas.List.{length-take-le, get_or-take}
use Rattle.hierarchy.specs.Dimensions.{Dims, Row, up}
use Rattle.hierarchy.specs.Levels.{finest}
use Rattle.hierarchy.specs.Places.{place_up}
use Rattle.hierarchy.specs.Views.{risen, lifted}
use Rattle.hierarchy.specs.declared.dimension.Rise.{Rise}

pub lifted_at : (rs : List Rise) (ns : Row) (i : ℕ) (r : Rise) → i < length rs → i < length ns → get_or (lifted rs ns) i 0 ≡ risen (get_or rs i r) (get_or ns i 0)
unfolding lifted
lifted_at [] ns i r a b = absurd (omega arith)
lifted_at (x ∷ rs) [] i r a b = absurd (omega arith)
lifted_at (x ∷ rs) (n ∷ ns) zero r a b = refl
lifted_at (x ∷ rs) (n ∷ ns) (suc i) r a b = lifted_at rs ns i r (omega arith) (omega arith)

pub lifted_past : (rs : List Rise) (ns : Row) (i : ℕ) → length rs ≤ i → get_or (lifted rs ns) i 0 ≡ 0
unfolding lifted
lifted_past [] ns i a = refl
lifted_past (x ∷ rs) [] i a = refl
lifted_past (x ∷ rs) (n ∷ ns) zero a = absurd (omega arith)
lifted_past (x ∷ rs) (n ∷ ns) (suc i) a = lifted_past rs ns i (omega arith)

-- rises from ls to ms, one a dimension, take places up from ls to ms
pub lifted_is : (ss : Dims) (rs : List Rise) (ls ms ns : Row) → length rs ≡ length ss → length ls ≡ length ss → length ms ≡ length ss
    → ((j : ℕ) → j < length ss → (r : Rise) (n : ℕ) → risen (get_or rs j r) n ≡ up (get_or ss j []) (get_or ls j 0) (get_or ms j 0) n)
    → lifted rs ns ≡ place_up ss ls ms ns
unfolding lifted place_up
lifted_is [] [] ls ms ns a b c h = refl
lifted_is [] (x ∷ rs) ls ms ns a b c h = absurd (omega arith)
lifted_is (fs ∷ ss) [] ls ms ns a b c h = absurd (omega arith)
lifted_is (fs ∷ ss) (x ∷ rs) [] ms ns a b c h = absurd (omega arith)
lifted_is (fs ∷ ss) (x ∷ rs) (l ∷ ls) [] ns a b c h = absurd (omega arith)
lifted_is (fs ∷ ss) (x ∷ rs) (l ∷ ls) (m ∷ ms) [] a b c h = refl
lifted_is (fs ∷ ss) (x ∷ rs) (l ∷ ls) (m ∷ ms) (n ∷ ns) a b c h =
    let first = h 0 (omega arith) x n in
    let rest = lifted_is ss rs ls ms ns (omega arith) (omega arith) (omega arith) (λ j k r i. h (suc j) (omega arith) r i) in
    cc

-- the finest levels of at most four dimensions
pub finest_zeros : (ss : Dims) → length ss ≤ 4 → take (length ss) (0 ∷ 0 ∷ 0 ∷ 0 ∷ []) ≡ finest ss
unfolding finest
finest_zeros [] h = refl
finest_zeros (a ∷ []) h = refl
finest_zeros (a ∷ b ∷ []) h = refl
finest_zeros (a ∷ b ∷ c ∷ []) h = refl
finest_zeros (a ∷ b ∷ c ∷ d ∷ []) h = refl
finest_zeros (a ∷ b ∷ c ∷ d ∷ e ∷ ss) h = absurd (omega arith)

-- what holds of each of four holds of those below four
pub by_four : (P : ℕ → Type 0) → P 0 → P 1 → P 2 → P 3 → (i : ℕ) → i < 4 → P i
by_four P a b c d zero h = a
by_four P a b c d (suc zero) h = b
by_four P a b c d (suc (suc zero)) h = c
by_four P a b c d (suc (suc (suc zero))) h = d
by_four P a b c d (suc (suc (suc (suc i)))) h = absurd (omega arith)

-- four rises, of which the first w count, one a dimension
pub ascent_is : (ss : Dims) (w : ℕ) (rs : List Rise) (ls ms ns : Row) → length ss ≡ w → w ≤ 4 → length rs ≡ 4 → length ls ≡ 4 → length ms ≡ 4
    → ((i : ℕ) (r : Rise) → i < 4 → i < length ss → (n : ℕ) → risen (get_or rs i r) n ≡ up (get_or ss i []) (get_or ls i 0) (get_or ms i 0) n)
    → lifted (take w rs) ns ≡ place_up ss (take (length ss) ls) (take (length ss) ms) ns
ascent_is ss w rs ls ms ns e few z x y h =
    lifted_is ss (take w rs) (take (length ss) ls) (take (length ss) ms) ns (length-take-le w rs (omega arith) ∙ sym e)
    (length-take-le (length ss) ls (omega arith)) (length-take-le (length ss) ms (omega arith))
    (λ j k r n. rw (get_or-take w rs j r (omega arith), get_or-take (length ss) ls j 0 k, get_or-take (length ss) ms j 0 k) (h j r (omega arith) k n))
