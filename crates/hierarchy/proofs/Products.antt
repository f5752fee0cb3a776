-- Products of factors: one factor more, a part of them, and when the product of all is small. Assumes nothing.
use Rattle.std.proofs.Common.{◌≡◌, ℕ, zero, suc, ◌+◌, ◌-◌, ◌*◌, ◌^◌, ◌<◌, ◌≤◌, min, true, false, ltb, ◌⊎◌, Option, List, [], ◌∷◌, ◌++◌, map, length, get_or, take, drop, sym, refl, ap, subst, ◌∙◌, inl, inr, ⊎_elim, one-mul, mul-zero, zero-mul, mul-one, mul_assoc, arith}
use Rattle.std.specs.Bool.{⊤}
use Rattle.std.specs.Iterator.{Yields, Drains}
use Rattle.std.specs.Iterator.Runs.{EachRunFrom, YieldsRun}
use Rattle.std.specs.List.{fold}
use Rattle.std.proofs.lemmas.Iterator.{YieldsList}
use Rattle.std.proofs.lemmas.Iterator.Adapters.{total_from_yields_List}
use Rattle.std.proofs.lemmas.Iterator.Consumers.{YieldsList-so_far}
use Rattle.std.proofs.lemmas.List.Folds.{fold-map}
use Rattle.std.proofs.lemmas.List.{take-append-drop, take-take, drop-take, drop_more, drop_all, length-take}
use Rattle.std.proofs.lemmas.Bool.{lt-ltb, le-ltb, and_left, and_right, and_from, and_parts, ltb-true, cases_lt}
use Rattle.hierarchy.specs.Dimensions.{product}
use Rattle.hierarchy.specs.Reading.{small}
use Rattle.hierarchy.specs.Views.{factors_of}
use Rattle.hierarchy.specs.declared.dimension.Dimension.{Dimension}
use Rattle.hierarchy.proofs.Laws.{product_append, between_factors, one_factor}

-- the factors from l up to i, and then one more
pub product_more : (xs : List ℕ) (l i : ℕ) → l ≤ i → i < length xs → product (drop l (take (i + 1) xs)) ≡ product (drop l (take i xs)) * get_or xs i 0
unfolding product
product_more xs l i p q = rw (between_factors xs l i (i + 1) p (omega arith), one_factor xs i 0 q, product_append, mul-one (get_or xs i 0))

-- a product that is positive has positive factors, each at most the product
pub part_le : (a b c : ℕ) → 0 < a * (b * c) → (0 < b) × (b ≤ a * (b * c))
part_le zero b c h = absurd (omega (arith, zero-mul (b * c)))
part_le (suc a) b zero h = absurd (omega (arith, mul-zero b, mul-zero (suc a)))
part_le (suc a) zero (suc c) h = absurd (omega (arith, zero-mul (suc c), mul-zero (suc a)))
part_le (suc a) (suc b) (suc c) h = (omega arith, omega arith)

-- of the factors between l and i
pub product_part : (xs : List ℕ) (l i : ℕ) → l ≤ i
    → product xs ≡ product (take l xs) * (product (drop l (take i xs)) * product (drop i xs))
product_part xs l i p =
    ap product (sym (take-append-drop l xs)) ∙ product_append (take l xs) (drop l xs)
    ∙ ap (λ n. product (take l xs) * n) (ap product (rest xs l i p) ∙ product_append (drop l (take i xs)) (drop i xs))
  where
    rest : (ys : List ℕ) (l i : ℕ) → l ≤ i → drop l ys ≡ drop l (take i ys) ++ drop i ys
    rest ys zero i p = sym (take-append-drop i ys)
    rest ys (suc l) zero p = absurd (omega arith)
    rest [] (suc l) (suc i) p = refl
    rest (y ∷ ys) (suc l) (suc i) p = rest ys l i (omega arith)

pub product_between : (xs : List ℕ) (l i : ℕ) → l ≤ i → 0 < product xs
    → (0 < product (drop l (take i xs))) × (product (drop l (take i xs)) ≤ product xs)
product_between xs l i p h =
    let e = product_part xs l i p in
    let r = part_le (product (take l xs)) (product (drop l (take i xs))) (product (drop i xs)) (rw e at h) in
    (r.0, rw e r.1)

-- one part is 0 or too large: the product is not small
pub not_small : (xs : List ℕ) (a b c : ℕ) → product xs ≡ a * (b * c) → (b ≡ 0) ⊎ (2 ^ 32 ≤ b) → small xs ≡ false
not_small xs a b c e (inl z) =
    and_left _ _ (le-ltb 0 (product xs) (omega (arith, e, ap (λ n. a * (n * c)) z, zero-mul c, mul-zero a)))
not_small xs a b c e (inr l) = ⊎_elim above (λ z. and_left _ _ (le-ltb 0 (product xs) z)) (cases_lt 0 (product xs))
  where
    above : 0 < product xs → small xs ≡ false
    above h = and_right _ _ (le-ltb (product xs) (2 ^ 32) (omega (arith, e, part_le a b c (rw e at h))))

-- no part is 0, and the product is below 2^32
pub is_small : (xs : List ℕ) → 0 < product xs → product xs < 2 ^ 32 → small xs ≡ true
is_small xs p q = and_from _ _ (lt-ltb 0 (product xs) p) (lt-ltb (product xs) (2 ^ 32) q)

-- a factor that is 0 or too large, or too large a product up to some factor
pub bad_factor : (xs : List ℕ) (i : ℕ) → i < length xs → (get_or xs i 0 ≡ 0) ⊎ (2 ^ 32 ≤ get_or xs i 0) → small xs ≡ false
unfolding product
bad_factor xs i h =
    not_small xs (product (take i xs)) (get_or xs i 0) (product (drop (i + 1) xs))
    (ap product (sym (take-append-drop i xs)) ∙ product_append (take i xs) (drop i xs) ∙ ap (λ ys. product (take i xs) * product ys) (drop_more xs i 0 h))

pub bad_front : (xs : List ℕ) (i : ℕ) → 2 ^ 32 ≤ product (take i xs) → small xs ≡ false
bad_front xs i h =
    not_small xs 1 (product (take i xs)) (product (drop i xs))
    (ap product (sym (take-append-drop i xs)) ∙ product_append (take i xs) (drop i xs) ∙ sym (one-mul (product (take i xs) * product (drop i xs)))) (inr h)

-- a fold that multiplies from a on
fold_product : (a : ℕ) (xs : List ℕ) → fold (λ b x. b * x) a xs ≡ a * product xs
unfolding product
fold_product a [] = sym (mul-one a)
fold_product a (x ∷ xs) = fold_product (a * x) xs ∙ mul_assoc a x (product xs)

-- a chain of numbers, read by v, whose product is positive and below top
module _ {S A : Type 0} {steps : S → Option A → S → Type 0} {v : A → ℕ} {all : List ℕ} {s : S} (road : YieldsList steps v s all) where
  pub product_fits : (top : ℕ) → 0 < product all → product all < top → EachRunFrom steps s (λ p. fold (λ a x. a * v x) 1 p.items < top)
  unfolding YieldsRun
  product_fits top h l = λ p _ at.
      let front = YieldsList-so_far road p.items p.gave.0.0 (subst (λ u. Yields steps u p.items p.gave.0.0) at p.gave.0.1) in
      let e : fold (λ a x. a * v x) 1 p.items ≡ product (take (length p.items) all) =
      sym (fold-map (λ b x. b * x) v 1 p.items) ∙ (fold_product 1 (map v p.items) ∙ (one-mul _ ∙ ap product front)) in
      omega (arith, e, l, product_between all 0 (length p.items) (omega arith) h)

  pub product_of : (r : ℕ) → (xs : List A) × (⊤ → Drains steps s xs) × (r ≡ fold (λ a x. a * v x) 1 xs) → r ≡ product all
  product_of r ran = total_from_yields_List (λ b x. b * x) 1 r ran road ∙ (fold_product 1 all ∙ one-mul (product all))

pub mul_positive : (a b : ℕ) → 0 < a → 0 < b → 0 < a * b
mul_positive zero b p q = absurd (omega arith)
mul_positive (suc a) zero p q = absurd (omega arith)
mul_positive (suc a) (suc b) p q = omega arith

-- from a level to one that is no coarser there is no factor
pub none_between : (xs : List ℕ) (l m : ℕ) → m ≤ l → product (drop l (take m xs)) ≡ 1
unfolding product
none_between xs l m h = rw (drop_all l (take m xs) (omega (arith, length-take m xs)))

pub small_parts : (xs : List ℕ) → small xs ≡ true → (0 < product xs) × (product xs < 2 ^ 32)
small_parts xs h =
    let p = and_parts (ltb 0 (product xs)) (ltb (product xs) (2 ^ 32)) h in
    (ltb-true 0 (product xs) p.0, ltb-true (product xs) (2 ^ 32) p.1)

-- the factors of a dimension between two levels, as they lie in its array
pub same_factors : (d : Dimension) (l m : ℕ) → m ≤ length (factors_of d) → take (m - min l m) (drop (min l m) d.factors) ≡ drop l (take m (factors_of d))
same_factors d l m h = ⊎_elim none some (cases_lt m l)
  where
    none : m < l → take (m - min l m) (drop (min l m) d.factors) ≡ drop l (take m (factors_of d))
    none k =
        let e : m - min l m ≡ 0 = omega arith in
        rw (e, drop_all l (take m (factors_of d)) (omega (arith, length-take m (factors_of d))))

    some : l ≤ m → take (m - min l m) (drop (min l m) d.factors) ≡ drop l (take m (factors_of d))
    some k =
        let e : min l m ≡ l = omega arith in
        let f : l + (m - l) ≡ m = omega arith in
        let front : take m (factors_of d) ≡ take m d.factors = take-take m d.count d.factors (omega (arith, h, length-take d.count d.factors)) in
        let part = drop-take l (m - l) d.factors in
        rw (e, front) (sym (rw f at part))

-- their product is positive and small
pub part_small : (d : Dimension) (l m : ℕ) → (0 < product (drop l (take m (factors_of d)))) × (product (drop l (take m (factors_of d))) < 2 ^ 32)
part_small d l m = ⊎_elim none some (cases_lt m l)
  where
    none : m < l → (0 < product (drop l (take m (factors_of d)))) × (product (drop l (take m (factors_of d))) < 2 ^ 32)
    none k = rw (none_between (factors_of d) l m (omega arith)) (omega arith, omega arith)

    some : l ≤ m → (0 < product (drop l (take m (factors_of d)))) × (product (drop l (take m (factors_of d))) < 2 ^ 32)
    some k =
        let p = product_between (factors_of d) l m k d.positive in
        (p.0, omega (arith, p.1, d.small))
