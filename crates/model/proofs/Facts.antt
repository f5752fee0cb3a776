-- Facts that are equal, and how often they are there. Assumes nothing.
use Rattle.std.proofs.Common.{◌≡◌, ℕ, zero, suc, ◌+◌, ◌*◌, ◌<◌, ◌≤◌, true, false, cond, eqb, List, [], ◌∷◌, ◌++◌, length, get_or, take, drop, refl, ap, ◌∙◌, inl, inr, mul-suc, arith}
use Rattle.std.specs.List.{AllByRecursion as All}
use Rattle.std.proofs.lemmas.Bool.{eqb-true, eq-eqb, and_parts, and_from, cases_Bool}
use Rattle.hierarchy.specs.Levels.{same}
use Rattle.hierarchy.specs.Facts.{Entry, same_fact, copies, without}
use Rattle.hierarchy.proofs.Rows.{same_is, same_refl}
use Rattle.totals.specs.Counts.{all_facts}

pub same_fact_is : (d e : Entry) → same_fact d e ≡ true → d ≡ e
same_fact_is d e h =
    let a = and_parts (same d.place e.place) (eqb d.amount e.amount) h in
    let place = same_is d.place e.place a.0 in
    let amount = eqb-true d.amount e.amount a.1 in
    let r : ◌≡◌ {A = Entry} (record { place = d.place; amount = d.amount }) (record { place = e.place; amount = e.amount }) = cc in
    r

pub same_fact_refl : (e : Entry) → same_fact e e ≡ true
same_fact_refl e = and_from _ _ (same_refl e.place) (eq-eqb e.amount e.amount refl)

-- the equations of copies and without
pub copies_none : (e : Entry) → copies e [] ≡ 0
unfolding copies
copies_none e = refl

pub copies_more : (e x : Entry) (xs : List Entry) → copies e (x ∷ xs) ≡ cond (same_fact e x) 1 0 + copies e xs
unfolding copies
copies_more e x xs = refl

pub copies_here : (e : Entry) (xs : List Entry) → copies e (e ∷ xs) ≡ suc (copies e xs)
copies_here e xs = rw (copies_more e e xs, same_fact_refl e) (omega arith)

pub without_same : (e x : Entry) (xs : List Entry) → same_fact e x ≡ true → without e (x ∷ xs) ≡ xs
unfolding without
without_same e x xs h = rw h

pub without_other : (e x : Entry) (xs : List Entry) → same_fact e x ≡ false → without e (x ∷ xs) ≡ x ∷ without e xs
unfolding without
without_other e x xs h = rw h

pub without_here : (e : Entry) (xs : List Entry) → without e (e ∷ xs) ≡ xs
without_here e xs = without_same e e xs (same_fact_refl e)

-- a fact that goes is there once less, and no other is
pub copies_without : (d e : Entry) (es : List Entry) → 0 < copies e es → copies d (without e es) + cond (same_fact d e) 1 0 ≡ copies d es
copies_without d e [] h = absurd (omega (arith, copies_none e))
copies_without d e (x ∷ xs) h =
    elim (cases_Bool (same_fact e x)) [
      | inl k ↦
          let q = same_fact_is e x k in
          rw (without_same e x xs k, q, copies_more d x xs) (omega arith)
      | inr k ↦
          let here : copies e (x ∷ xs) ≡ 0 + copies e xs = rw (copies_more e x xs, k) in
          let r = copies_without d e xs (omega (arith, here)) in
          rw (without_other e x xs k) (omega (arith, r, copies_more d x xs, copies_more d x (without e xs)))
    ]

-- the first fact that equals it is the one that goes, and a fact that equals none is not there
pub without_at : (e : Entry) (es : List Entry) (i : ℕ) (d : Entry) → i < length es → same_fact e (get_or es i d) ≡ true
    → ((j : ℕ) → j < i → same_fact e (get_or es j d) ≡ false) → (without e es ≡ take i es ++ drop (suc i) es) × (0 < copies e es)
without_at e [] i d l h a = absurd (omega arith)
without_at e (x ∷ xs) zero d l h a =
    let c : copies e (x ∷ xs) ≡ 1 + copies e xs = rw (copies_more e x xs, h) in (without_same e x xs h, omega (arith, c))
without_at e (x ∷ xs) (suc i) d l h a =
    let r = without_at e xs i d (omega arith) h (λ j k. a (suc j) (omega arith)) in
    (without_other e x xs (a 0 (omega arith)) ∙ ap (λ ys. x ∷ ys) r.0, omega (arith, copies_more e x xs, r.1))

pub copies_nowhere : (e : Entry) (es : List Entry) → All (λ x. same_fact e x ≡ false) es → copies e es ≡ 0
copies_nowhere e [] a = copies_none e
copies_nowhere e (x ∷ xs) a = rw (copies_more e x xs, a.0, copies_nowhere e xs a.1) refl

-- what holds of all facts holds of all that are left
pub all_without : (P : Entry → Type 0) (e : Entry) (es : List Entry) → All P es → All P (without e es)
unfolding without
all_without P e [] a = tt
all_without P e (x ∷ xs) a =
    elim (cases_Bool (same_fact e x)) [
      | inl k ↦ rw (without_same e x xs k) a.1
      | inr k ↦ rw (without_other e x xs k) (a.0, all_without P e xs a.1)
    ]

pub without_length : (e : Entry) (es : List Entry) → 0 < copies e es → length (without e es) + 1 ≡ length es
without_length e [] h = absurd (omega (arith, copies_none e))
without_length e (x ∷ xs) h =
    elim (cases_Bool (same_fact e x)) [
      | inl k ↦ rw (without_same e x xs k) (omega arith)
      | inr k ↦
          let here : copies e (x ∷ xs) ≡ 0 + copies e xs = rw (copies_more e x xs, k) in
          rw (without_other e x xs k) (omega (arith, without_length e xs (omega (arith, here))))
    ]

-- all facts together: how many there are, and a sum that small amounts bound
pub all_count : (es : List Entry) → (all_facts es).count ≡ length es
unfolding all_facts
all_count [] = refl
all_count (e ∷ es) = omega (arith, all_count es)

pub all_sum : (m : ℕ) (es : List Entry) → All (λ e. e.amount ≤ m) es → (all_facts es).sum ≤ m * length es
unfolding all_facts
all_sum m [] a = omega arith
all_sum m (e ∷ es) a = omega (arith, all_sum m es a.1, a.0, mul-suc m (length es))
