-- Places are in a total order: `before` is irreflexive and transitive, and of two that are not the same one is before the other. Assumes nothing.
use Rattle.std.proofs.Common.{◌≡◌, ℕ, ◌<◌, true, false, ◌&&◌, eqb, ltb, ◌⊎◌, [], ◌∷◌, sym, refl, ◌∙◌, subst, inl, inr, arith}
use Rattle.std.proofs.lemmas.Bool.{ltb-true, lt-ltb, eqb-true, eq-eqb, and_parts, and_from, or_cases, or_left, or_right, both_ways, cases_order, cases_Bool}
use Rattle.hierarchy.specs.Dimensions.{Row}
use Rattle.hierarchy.specs.Levels.{same}
use Rattle.hierarchy.proofs.Rows.{not_same, same_sym}
use Rattle.totals.specs.Tables.{before}

-- the first number that differs decides
before_first : (x y : ℕ) (xs ys : Row) → x < y → before (x ∷ xs) (y ∷ ys) ≡ true
unfolding before
before_first x y xs ys h = or_left _ _ (lt-ltb x y h)

before_rest : (x y : ℕ) (xs ys : Row) → x ≡ y → before xs ys ≡ true → before (x ∷ xs) (y ∷ ys) ≡ true
unfolding before
before_rest x y xs ys e h = or_right _ _ (and_from _ _ (eq-eqb x y e) h)

before_ways : (x y : ℕ) (xs ys : Row) → before (x ∷ xs) (y ∷ ys) ≡ true → (x < y) ⊎ ((x ≡ y) × (before xs ys ≡ true))
unfolding before
before_ways x y xs ys h =
    elim (or_cases (ltb x y) (eqb x y && before xs ys) h) [
      | inl a ↦ inl (ltb-true x y a)
      | inr b ↦ let c = and_parts (eqb x y) (before xs ys) b in inr (eqb-true x y c.0, c.1)
    ]

before_nothing : (p : Row) → before p [] ≡ false
unfolding before
before_nothing [] = refl
before_nothing (x ∷ xs) = refl

nothing_before : (y : ℕ) (ys : Row) → before [] (y ∷ ys) ≡ true
unfolding before
nothing_before y ys = refl

pub before_irrefl : (p : Row) → before p p ≡ true → ⊥
before_irrefl [] h = both_ways (before [] []) (before_nothing []) h
before_irrefl (x ∷ xs) h = elim (before_ways x x xs xs h) [ inl a ↦ omega arith | inr b ↦ before_irrefl xs b.1 ]

pub before_trans : (p q r : Row) → before p q ≡ true → before q r ≡ true → before p r ≡ true
before_trans p q [] g h = absurd (both_ways (before q []) (before_nothing q) h)
before_trans p [] (z ∷ zs) g h = absurd (both_ways (before p []) (before_nothing p) g)
before_trans [] (y ∷ ys) (z ∷ zs) g h = nothing_before z zs
before_trans (x ∷ xs) (y ∷ ys) (z ∷ zs) g h =
    elim (before_ways x y xs ys g) [
      | inl a ↦ elim (before_ways y z ys zs h) [ inl c ↦ before_first x z xs zs (omega arith) | inr d ↦ before_first x z xs zs (omega (arith, d.0)) ]
      | inr b ↦ elim (before_ways y z ys zs h)
          [ inl c ↦ before_first x z xs zs (omega (arith, b.0)) | inr d ↦ before_rest x z xs zs (b.0 ∙ d.0) (before_trans xs ys zs b.1 d.1) ]
    ]

-- one that comes before another is not the same, and does not come behind it
pub before_not_same : (p q : Row) → before p q ≡ true → same p q ≡ false
before_not_same p q h = not_same p q (λ e. before_irrefl p (subst (λ (r : Row). before p r ≡ true) (sym e) h))

pub before_not_same_back : (p q : Row) → before p q ≡ true → same q p ≡ false
before_not_same_back p q h = same_sym q p ∙ before_not_same p q h

pub before_not_back : (p q : Row) → before p q ≡ true → before q p ≡ false
before_not_back p q h =
    elim (cases_Bool (before q p)) [ inl a ↦ absurd (before_irrefl p (before_trans p q p h a)) | inr b ↦ b ]

pub order : (p q : Row) → (p ≡ q) ⊎ ((before p q ≡ true) ⊎ (before q p ≡ true))
order [] [] = inl refl
order [] (y ∷ ys) = inr (inl (nothing_before y ys))
order (x ∷ xs) [] = inr (inr (nothing_before x xs))
order (x ∷ xs) (y ∷ ys) =
    elim (cases_order x y) [
      | inl a ↦ elim (order xs ys) [
        | inl b ↦ inl (cc)
        | inr b ↦ elim b [ inl c ↦ inr (inl (before_rest x y xs ys a c)) | inr c ↦ inr (inr (before_rest y x ys xs (sym a) c)) ]
      ]
      | inr b ↦ elim b [ inl c ↦ inr (inl (before_first x y xs ys c)) | inr c ↦ inr (inr (before_first y x ys xs c)) ]
    ]
