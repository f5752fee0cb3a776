-- Two rows are the same if they are equal. Assumes nothing.
use Rattle.std.proofs.Common.{◌≡◌, Bool, true, false, ◌&&◌, eqb, [], ◌∷◌, sym, refl, ap, inl, inr}
use Rattle.std.specs.Cmp.Lexicographic.{pointwise}
use Rattle.std.proofs.lemmas.Bool.{eqb-true, eq-eqb, and_parts, and_from, true≢false, both_ways, cases_Bool}
use Rattle.hierarchy.specs.Dimensions.{Row}
use Rattle.hierarchy.specs.Levels.{same}

pub same_is : (p q : Row) → same p q ≡ true → p ≡ q
unfolding same
same_is [] [] h = refl
same_is [] (y ∷ ys) h = absurd (true≢false (sym h))
same_is (x ∷ xs) [] h = absurd (true≢false (sym h))
same_is (x ∷ xs) (y ∷ ys) h =
    let a = and_parts (eqb x y) (same xs ys) h in
    let first = eqb-true x y a.0 in
    let rest = same_is xs ys a.1 in
    cc

pub same_refl : (p : Row) → same p p ≡ true
unfolding same
same_refl [] = refl
same_refl (x ∷ xs) = and_from _ _ (eq-eqb x x refl) (same_refl xs)

pub is_same : (p q : Row) → p ≡ q → same p q ≡ true
is_same p q h = let r = same_refl p in cc

pub not_same : (p q : Row) → (p ≡ q → ⊥) → same p q ≡ false
not_same p q h = elim (cases_Bool (same p q)) [ inl a ↦ absurd (h (same_is p q a)) | inr b ↦ b ]

pub same_sym : (p q : Row) → same p q ≡ same q p
same_sym p q = go (same p q) refl
  where
    go : (v : Bool) → same p q ≡ v → v ≡ same q p
    go true e = sym (is_same q p (sym (same_is p q e)))
    go false e = sym (not_same q p (λ h. both_ways (same p q) e (is_same p q (sym h))))

-- two rows as `==` compares them
pub same_rows : (xs ys : Row) → pointwise eqb xs ys ≡ same xs ys
unfolding same
same_rows [] [] = refl
same_rows [] (y ∷ ys) = refl
same_rows (x ∷ xs) [] = refl
same_rows (x ∷ xs) (y ∷ ys) = ap (λ b. eqb x y && b) (same_rows xs ys)
