-- The laws of dimensions, levels and places. Crates above cite these and never unfold the definitions, so that another kind
-- of hierarchy moves the definitions and this file only. Assumes nothing.
use Rattle.std.proofs.Common.{◌≡◌, ℕ, zero, suc, ◌+◌, ◌*◌, ◌/◌, ◌<◌, ◌≤◌, Bool, true, false, cond, ltb, leb, List, [], ◌∷◌, ◌++◌, length, get_or, take, drop, sym, refl, ap, mul_assoc, one-mul, mul-one, div-one, arith}
use native.Mathlib.Nat.{div-div-eq-div-mul}
use Rattle.std.proofs.lemmas.List.{take_more, drop_at, length-take-le}
use Rattle.std.proofs.lemmas.Bool.{leb-true, le-leb, ltb-false, lt-ltb, le-ltb, and_parts, and_from, true≢false}
use Rattle.hierarchy.specs.Dimensions.{Factors, Dims, Row, product, up, last_level}
use Rattle.hierarchy.specs.Levels.{are_levels, no_coarser, finest}
use Rattle.hierarchy.specs.Places.{place_up, place_at}

pub product_append : (xs ys : List ℕ) → product (xs ++ ys) ≡ product xs * product ys
unfolding product
product_append [] ys = sym (one-mul (product ys))
product_append (x ∷ xs) ys = rw (product_append xs ys) (sym (mul_assoc x (product xs) (product ys)))

-- the factors between l and m, and between m and k, are those between l and k
pub between_factors : {A : Type 0} (xs : List A) (l m k : ℕ) → l ≤ m → m ≤ k → drop l (take k xs) ≡ drop l (take m xs) ++ drop m (take k xs)
between_factors xs zero zero k p q = refl
between_factors [] zero (suc m) zero p q = absurd (omega arith)
between_factors [] zero (suc m) (suc k) p q = refl
between_factors (x ∷ xs) zero (suc m) zero p q = absurd (omega arith)
between_factors (x ∷ xs) zero (suc m) (suc k) p q = ap (λ ys. x ∷ ys) (between_factors xs zero m k (omega arith) (omega arith))
between_factors xs (suc l) zero k p q = absurd (omega arith)
between_factors xs (suc l) (suc m) zero p q = absurd (omega arith)
between_factors [] (suc l) (suc m) (suc k) p q = refl
between_factors (x ∷ xs) (suc l) (suc m) (suc k) p q = between_factors xs l m k (omega arith) (omega arith)

pub one_factor : {A : Type 0} (xs : List A) (i : ℕ) (d : A) → i < length xs → drop i (take (i + 1) xs) ≡ get_or xs i d ∷ []
one_factor xs i d h = rw (take_more xs i d h) (drop_at (take i xs) (get_or xs i d ∷ []) i (length-take-le i xs (omega arith)))

-- up to l and then on to m is up to m
pub up_up : (fs : Factors) (l m k n : ℕ) → l ≤ m → m ≤ k → up fs m k (up fs l m n) ≡ up fs l k n
unfolding up
up_up fs l m k n p q = go (ltb (length fs) k) refl
  where
    go : (v : Bool) → ltb (length fs) k ≡ v
        → cond v 0 (cond (ltb (length fs) m) 0 (n / product (drop l (take m fs))) / product (drop m (take k fs)))
        ≡ cond v 0 (n / product (drop l (take k fs)))
    go true e = refl
    go false e =
        rw (le-ltb (length fs) m (omega (arith, ltb-false (length fs) k e)), div-div-eq-div-mul, ← product_append, ← between_factors fs l m k p q)

-- what a level is: level 0 is the number itself
pub up_finest : (fs : Factors) (l n : ℕ) → l ≤ length fs → up fs l l n ≡ n
unfolding up product
up_finest fs l n h = rw (le-ltb (length fs) l h, drop-take-same fs l) (div-one n)
  where
    drop-take-same : (xs : List ℕ) (i : ℕ) → drop i (take i xs) ≡ []
    drop-take-same xs zero = refl
    drop-take-same [] (suc i) = refl
    drop-take-same (x ∷ xs) (suc i) = drop-take-same xs i

-- each next level divides by its factor
pub up_next : (fs : Factors) (l m n : ℕ) → l ≤ m → m < length fs → up fs l (m + 1) n ≡ up fs l m n / get_or fs m 0
unfolding up product
up_next fs l m n p q =
    rw (
      le-ltb (length fs) (m + 1) (omega arith),
      le-ltb (length fs) m (omega arith),
      between_factors fs l m (m + 1) p (omega arith),
      one_factor fs m 0 q,
      product_append,
      mul-one (get_or fs m 0),
    ) (sym (div-div-eq-div-mul n (product (drop l (take m fs))) (get_or fs m 0)))

-- the last is 0
pub up_last : (fs : Factors) (l n : ℕ) → up fs l (last_level fs) n ≡ 0
unfolding up
up_last fs l n = rw (lt-ltb (length fs) (length fs + 1) (omega arith))

-- no coarser: each of them has as many levels as there are dimensions
pub no_coarser_length : (ss : Dims) (ls ms : Row) → no_coarser ss ls ms ≡ true → (length ls ≡ length ss) × (length ms ≡ length ss)
unfolding no_coarser
no_coarser_length [] [] [] h = (refl, refl)
no_coarser_length [] [] (m ∷ ms) h = absurd (true≢false (sym h))
no_coarser_length [] (l ∷ ls) ms h = absurd (true≢false (sym h))
no_coarser_length (fs ∷ ss) [] ms h = absurd (true≢false (sym h))
no_coarser_length (fs ∷ ss) (l ∷ ls) [] h = absurd (true≢false (sym h))
no_coarser_length (fs ∷ ss) (l ∷ ls) (m ∷ ms) h =
    let r = no_coarser_length ss ls ms (and_parts (leb l m) (no_coarser ss ls ms) h).1 in (ap suc r.0, ap suc r.1)

pub levels_length : (ss : Dims) (ls : Row) → are_levels ss ls ≡ true → length ls ≡ length ss
unfolding are_levels
levels_length [] [] h = refl
levels_length [] (l ∷ ls) h = absurd (true≢false (sym h))
levels_length (fs ∷ ss) [] h = absurd (true≢false (sym h))
levels_length (fs ∷ ss) (l ∷ ls) h = ap suc (levels_length ss ls (and_parts (leb l (last_level fs)) (are_levels ss ls) h).1)

pub finest_length : (ss : Dims) → length (finest ss) ≡ length ss
unfolding finest
finest_length [] = refl
finest_length (fs ∷ ss) = ap suc (finest_length ss)

-- the finest levels are there
pub finest_are_levels : (ss : Dims) → are_levels ss (finest ss) ≡ true
unfolding are_levels finest
finest_are_levels [] = refl
finest_are_levels (fs ∷ ss) = and_from _ _ (le-leb 0 (last_level fs) (omega arith)) (finest_are_levels ss)

-- no coarser is reflexive and transitive, and the finest levels are no coarser than any that are there
pub no_coarser_refl : (ss : Dims) (ls : Row) → length ls ≡ length ss → no_coarser ss ls ls ≡ true
unfolding no_coarser
no_coarser_refl [] [] h = refl
no_coarser_refl [] (l ∷ ls) h = absurd (omega arith)
no_coarser_refl (fs ∷ ss) [] h = absurd (omega arith)
no_coarser_refl (fs ∷ ss) (l ∷ ls) h = and_from _ _ (le-leb l l (omega arith)) (no_coarser_refl ss ls (omega arith))

pub no_coarser_trans : (ss : Dims) (ls ms ks : Row) → no_coarser ss ls ms ≡ true → no_coarser ss ms ks ≡ true → no_coarser ss ls ks ≡ true
unfolding no_coarser
no_coarser_trans [] [] [] [] p q = refl
no_coarser_trans [] [] [] (k ∷ ks) p q = q
no_coarser_trans [] [] (m ∷ ms) ks p q = absurd (true≢false (sym p))
no_coarser_trans [] (l ∷ ls) ms ks p q = p
no_coarser_trans (fs ∷ ss) [] ms ks p q = p
no_coarser_trans (fs ∷ ss) (l ∷ ls) [] ks p q = absurd (true≢false (sym p))
no_coarser_trans (fs ∷ ss) (l ∷ ls) (m ∷ ms) [] p q = q
no_coarser_trans (fs ∷ ss) (l ∷ ls) (m ∷ ms) (k ∷ ks) p q =
    let a = and_parts (leb l m) (no_coarser ss ls ms) p in
    let b = and_parts (leb m k) (no_coarser ss ms ks) q in
    and_from _ _ (le-leb l k (omega (arith, leb-true l m a.0, leb-true m k b.0))) (no_coarser_trans ss ls ms ks a.1 b.1)

pub no_coarser_finest : (ss : Dims) (ls : Row) → length ls ≡ length ss → no_coarser ss (finest ss) ls ≡ true
unfolding no_coarser finest
no_coarser_finest [] [] h = refl
no_coarser_finest [] (l ∷ ls) h = absurd (omega arith)
no_coarser_finest (fs ∷ ss) [] h = absurd (omega arith)
no_coarser_finest (fs ∷ ss) (l ∷ ls) h = and_from _ _ (le-leb 0 l (omega arith)) (no_coarser_finest ss ls (omega arith))

-- a place at ls, up to ms and then on to ks, is up to ks
pub place_up_up : (ss : Dims) (ls ms ks ns : Row) → no_coarser ss ls ms ≡ true → no_coarser ss ms ks ≡ true
    → place_up ss ms ks (place_up ss ls ms ns) ≡ place_up ss ls ks ns
unfolding no_coarser place_up
place_up_up [] ls ms ks ns p q = refl
place_up_up (fs ∷ ss) [] ms ks ns p q = absurd (true≢false (sym p))
place_up_up (fs ∷ ss) (l ∷ ls) [] ks ns p q = absurd (true≢false (sym p))
place_up_up (fs ∷ ss) (l ∷ ls) (m ∷ ms) [] ns p q = absurd (true≢false (sym q))
place_up_up (fs ∷ ss) (l ∷ ls) (m ∷ ms) (k ∷ ks) [] p q = refl
place_up_up (fs ∷ ss) (l ∷ ls) (m ∷ ms) (k ∷ ks) (n ∷ ns) p q =
    let a = and_parts (leb l m) (no_coarser ss ls ms) p in
    let b = and_parts (leb m k) (no_coarser ss ms ks) q in
    let h = up_up fs l m k n (leb-true l m a.0) (leb-true m k b.0) in
    let t = place_up_up ss ls ms ks ns a.1 b.1 in
    cc

-- a place at the finest levels, up to ls and then on to ms, is at ms
pub place_at_up : (ss : Dims) (ls ms ns : Row) → no_coarser ss ls ms ≡ true → place_up ss ls ms (place_at ss ls ns) ≡ place_at ss ms ns
unfolding place_at
place_at_up ss ls ms ns h = place_up_up ss (finest ss) ls ms ns (no_coarser_finest ss ls (no_coarser_length ss ls ms h).0) h

pub place_up_length : (ss : Dims) (ls ms ns : Row) → length ls ≡ length ss → length ms ≡ length ss → length ns ≡ length ss
    → length (place_up ss ls ms ns) ≡ length ss
unfolding place_up
place_up_length [] ls ms ns a b c = refl
place_up_length (fs ∷ ss) [] ms ns a b c = a
place_up_length (fs ∷ ss) (l ∷ ls) [] ns a b c = b
place_up_length (fs ∷ ss) (l ∷ ls) (m ∷ ms) [] a b c = c
place_up_length (fs ∷ ss) (l ∷ ls) (m ∷ ms) (n ∷ ns) a b c = ap suc (place_up_length ss ls ms ns (omega arith) (omega arith) (omega arith))

pub place_at_length : (ss : Dims) (ms ns : Row) → length ms ≡ length ss → length ns ≡ length ss → length (place_at ss ms ns) ≡ length ss
unfolding place_at
place_at_length ss ms ns a b = place_up_length ss (finest ss) ms ns (finest_length ss) a b
