-- Rows gone through from the first number on: what is left gives the answer. Assumes nothing.
use Rattle.std.proofs.Common.{◌≡◌, ℕ, zero, suc, ◌+◌, ◌^◌, ◌<◌, ◌≤◌, min, Bool, true, false, cond, ltb, leb, ◌&&◌, List, [], ◌∷◌, map, length, get_or, take, Some, None, Option, sym, refl, ap, ◌∙◌, ⊎_elim, inl, inr, not, eqb, add-one, zero-add, add-zero, arith}
use Rattle.std.specs.Bool.{then_some}
use Rattle.std.specs.Option.{option_or}
use Rattle.std.specs.List.{position_from, list_all, zip}
use Rattle.std.proofs.lemmas.Bool.{le-leb, lt-leb, lt-ltb, le-ltb, ltb-true, ltb-false, eqb-true, eqb-false, cases_lt, cases_Bool}
use Rattle.hierarchy.specs.Dimensions.{Dims, Row, last_level}
use Rattle.hierarchy.specs.Levels.{no_coarser}
use Rattle.hierarchy.specs.Reading.{first_missing, first_wrong}
use Rattle.hierarchy.specs.Views.{factors_of}
use Rattle.hierarchy.specs.declared.dimension.Dimension.{Dimension}

pub some_none : (i : ℕ) → ◌≡◌ {A = Option ℕ} (Some i) None → ⊥
some_none i h = let z : ◌≡◌ {A = ℕ} 0 1 = cc in omega arith

-- a level that is not there
abbrev pub high : Dimension × ℕ → Bool
high p = leb (length (factors_of p.0) + 2) p.1

ltb_suc : (a b : ℕ) → ltb (suc a) (suc b) ≡ ltb a b
ltb_suc a b = ⊎_elim (λ l. rw (lt-ltb a b l) (lt-ltb (suc a) (suc b) (omega arith))) (λ l. rw (le-ltb a b l) (le-ltb (suc a) (suc b) (omega arith))) (cases_lt a b)

-- the first that is, or else the first that is missing
pub missing_is : (i : ℕ) (ds : List Dimension) (xs : Row)
    → option_or (position_from high i (zip ds xs)) (then_some (ltb (length xs) (length ds)) (i + length xs)) ≡ first_missing i (map factors_of ds) xs
unfolding first_missing
missing_is i [] xs = rw (le-ltb (length xs) 0 (omega arith))
missing_is i (d ∷ ds) [] = rw (lt-ltb 0 (suc (length ds)) (omega arith), add-zero)
missing_is i (d ∷ ds) (x ∷ xs) = ⊎_elim (low (missing_is (i + 1) ds xs)) above (cases_lt x (length (factors_of d) + 2))
  where
    low : option_or (position_from high (i + 1) (zip ds xs)) (then_some (ltb (length xs) (length ds)) (i + 1 + length xs)) ≡ first_missing (i + 1) (map factors_of ds) xs
        → x < length (factors_of d) + 2
        → option_or (position_from high i (zip (d ∷ ds) (x ∷ xs))) (then_some (ltb (suc (length xs)) (suc (length ds))) (i + suc (length xs)))
        ≡ first_missing i (map factors_of (d ∷ ds)) (x ∷ xs)
    low more k =
        let e : i + suc (length xs) ≡ i + 1 + length xs = omega arith in
        rw (lt-leb (length (factors_of d) + 2) x k, le-leb x (last_level (factors_of d)) (omega arith), ← (add-one i), e, ltb_suc (length xs) (length ds)) more

    above : length (factors_of d) + 2 ≤ x
        → option_or (position_from high i (zip (d ∷ ds) (x ∷ xs))) (then_some (ltb (suc (length xs)) (suc (length ds))) (i + suc (length xs)))
        ≡ first_missing i (map factors_of (d ∷ ds)) (x ∷ xs)
    above k = rw (le-leb (length (factors_of d) + 2) x k, lt-leb x (last_level (factors_of d)) (omega arith))

-- of w dimensions
pub first_missing_is : (w : ℕ) (ds : List Dimension) (xs : Row) → length ds ≡ w
    → option_or (position_from high 0 (zip ds xs)) (then_some (ltb (length xs) w) (length xs)) ≡ first_missing 0 (map factors_of ds) xs
first_missing_is w ds xs e =
    let r = missing_is 0 ds xs in
    let z = zero-add (length xs) in
    rw (z, e) at r

-- a number that is not below 2^32
abbrev pub large : ℕ → Bool
large x = leb (2 ^ 32) x

-- the first of k numbers that is too large
pub wrong_here : (i k : ℕ) (xs : Row) (j : ℕ) → position_from large i (take k xs) ≡ Some j → first_wrong i k xs ≡ Some j
unfolding first_wrong
wrong_here i zero xs j h = absurd (some_none j (sym h))
wrong_here i (suc k) [] j h = absurd (some_none j (sym h))
wrong_here i (suc k) (x ∷ xs) j h = go (wrong_here (i + 1) k xs j) (ltb x (2 ^ 32)) refl
  where
    go : (position_from large (i + 1) (take k xs) ≡ Some j → first_wrong (i + 1) k xs ≡ Some j) → (v : Bool) → ltb x (2 ^ 32) ≡ v
        → cond v (first_wrong (suc i) k xs) (Some i) ≡ Some j
    go more true e = rw (← (add-one i)) (more (rw (lt-leb (2 ^ 32) x (ltb-true x (2 ^ 32) e)) at h))
    go more false e = rw (le-leb (2 ^ 32) x (ltb-false x (2 ^ 32) e)) at h

-- where none of them is, there may be too few numbers, or more than k
pub wrong_long : (i k : ℕ) (xs : Row) → position_from large i (take k xs) ≡ None
    → (length xs ≡ k → first_wrong i k xs ≡ None) × ((length xs ≡ k → ⊥) → first_wrong i k xs ≡ Some (i + min (length xs) k))
unfolding first_wrong
wrong_long i zero [] h = (λ _. refl, λ n. absurd (n refl))
wrong_long i zero (x ∷ xs) h = (λ e. absurd (omega arith), λ n. ap Some (omega arith))
wrong_long i (suc k) [] h = (λ e. absurd (omega arith), λ n. ap Some (omega arith))
wrong_long i (suc k) (x ∷ xs) h = go (wrong_long (i + 1) k xs) (ltb x (2 ^ 32)) refl
  where
    go : (position_from large (i + 1) (take k xs) ≡ None
        → (length xs ≡ k → first_wrong (i + 1) k xs ≡ None) × ((length xs ≡ k → ⊥) → first_wrong (i + 1) k xs ≡ Some (i + 1 + min (length xs) k)))
        → (v : Bool) → ltb x (2 ^ 32) ≡ v
        → (suc (length xs) ≡ suc k → cond v (first_wrong (suc i) k xs) (Some i) ≡ None)
        × ((suc (length xs) ≡ suc k → ⊥) → cond v (first_wrong (suc i) k xs) (Some i) ≡ Some (i + min (suc (length xs)) (suc k)))
    go more true e =
        let r = more (rw (lt-leb (2 ^ 32) x (ltb-true x (2 ^ 32) e)) at h) in
        let on : i + 1 + min (length xs) k ≡ i + min (suc (length xs)) (suc k) = omega arith in
        rw (← (add-one i)) (λ l. r.0 (omega arith), λ n. r.1 (λ l. n (ap suc l)) ∙ ap Some on)
    go more false e = absurd (some_none i (rw (le-leb (2 ^ 32) x (ltb-false x (2 ^ 32) e)) at h))

-- both
pub wrong_is : (k : ℕ) (xs : Row) → option_or (position_from large 0 (take k xs)) (then_some (not (eqb (length xs) k)) (min (length xs) k)) ≡ first_wrong 0 k xs
wrong_is k xs = go (position_from large 0 (take k xs)) refl
  where
    none : position_from large 0 (take k xs) ≡ None → then_some (not (eqb (length xs) k)) (min (length xs) k) ≡ first_wrong 0 k xs
    none e =
        let r = wrong_long 0 k xs e in
        elim (cases_Bool (eqb (length xs) k)) as (λ _. then_some (not (eqb (length xs) k)) (min (length xs) k) ≡ first_wrong 0 k xs) [
          | inl a ↦ rw a (sym (r.0 (eqb-true (length xs) k a)))
          | inr b ↦ rw b (ap Some (sym (zero-add (min (length xs) k))) ∙ sym (r.1 (eqb-false (length xs) k b)))
        ]

    go : (o : Option ℕ) → position_from large 0 (take k xs) ≡ o → option_or o (then_some (not (eqb (length xs) k)) (min (length xs) k)) ≡ first_wrong 0 k xs
    go (Some j) e = sym (wrong_here 0 k xs j e)
    go None e = none e

-- level by level
pub coarser_is : (ss : Dims) (xs ys : Row) → length ss ≤ length xs → length ss ≤ length ys
    → no_coarser ss (take (length ss) xs) (take (length ss) ys) ≡ list_all (λ p. leb p.0 p.1) (take (length ss) (zip xs ys))
unfolding no_coarser
coarser_is [] xs ys a b = refl
coarser_is (fs ∷ ss) [] ys a b = absurd (omega arith)
coarser_is (fs ∷ ss) (x ∷ xs) [] a b = absurd (omega arith)
coarser_is (fs ∷ ss) (x ∷ xs) (y ∷ ys) a b = ap (λ v. leb x y && v) (coarser_is ss xs ys (omega arith) (omega arith))

-- no number is wrong: there are as many as there are to be, each below 2^32
pub wrong_none : (i k : ℕ) (xs : Row) → first_wrong i k xs ≡ None → (length xs ≡ k) × ((j : ℕ) → j < k → get_or xs j 0 < 2 ^ 32)
unfolding first_wrong
wrong_none i zero [] h = (refl, λ j l. absurd (omega arith))
wrong_none i zero (x ∷ xs) h = absurd (some_none i h)
wrong_none i (suc k) [] h = absurd (some_none i h)
wrong_none i (suc k) (x ∷ xs) h = go (ltb x (2 ^ 32)) refl (wrong_none (suc i) k xs)
  where
    go : (v : Bool) → ltb x (2 ^ 32) ≡ v → (first_wrong (suc i) k xs ≡ None → (length xs ≡ k) × ((j : ℕ) → j < k → get_or xs j 0 < 2 ^ 32))
        → (length (x ∷ xs) ≡ suc k) × ((j : ℕ) → j < suc k → get_or (x ∷ xs) j 0 < 2 ^ 32)
    go true e more =
        let r = more (rw e at h) in
        let low = ltb-true x (2 ^ 32) e in
        (ap suc r.0, λ j. elim j as (λ n. n < suc k → get_or (x ∷ xs) n 0 < 2 ^ 32) [ zero ↦ λ l. low | suc n ↦ λ l. r.1 n (omega arith) ])
    go false e more = absurd (some_none i (rw e at h))
