-- Groups that are all good are in order, none is empty, and so many of them fit in 64 bits together. Assumes nothing.
use Rattle.std.proofs.Common.{◌≡◌, ℕ, zero, suc, ◌-◌, ◌*◌, ◌^◌, ◌<◌, ◌≤◌, true, false, not, ◌&&◌, ◌||◌, eqb, ltb, leb, List, [], ◌∷◌, length, get_or, Some, None, Option, subst, inl, inr, arith}
use Rattle.std.specs.Option.{MatchOption}
use Rattle.std.proofs.lemmas.List.{get_or_default}
use Rattle.std.proofs.lemmas.Bool.{or_parts, lt-ltb, not-false, eqb-false, leb-false, cases_lt}
use Rattle.totals.specs.Tables.{Table, before}
use Rattle.totals.specs.Counts.{total}
use Rattle.totals.specs.Promises.{InOrder, NoneEmpty}
use Rattle.summary.specs.Memory.{count_in, table_in, none, Whole, Sound, out_of_bounds, bad, AllGood, FirstBad}
use Rattle.summary.proofs.Rows.{table_length}
use Rattle.totals.proofs.Order.{before_trans}

-- each comes after the one before: so it comes after all before
good_next : (t : Table) → AllGood t → (j : ℕ) → suc j < length t → before (get_or t j none).place (get_or t (suc j) none).place ≡ true
good_next t h j l =
    let a = or_parts (out_of_bounds (get_or t (suc j) none).measure) (ltb 0 (suc j) && not (before (get_or t (suc j - 1) none).place (get_or t (suc j) none).place)) (h (suc j) l) in
    let b = lt-ltb 0 (suc j) (omega arith) in
    let k : suc j - 1 ≡ j = omega arith in
    let e : (true && not (before (get_or t (suc j - 1) none).place (get_or t (suc j) none).place)) ≡ false = rw b at a.1 in
    let f : before (get_or t (suc j - 1) none).place (get_or t (suc j) none).place ≡ true = not-false _ e in
    rw k at f

good_order : (t : Table) → AllGood t → (i j : ℕ) → i < j → j < length t → before (get_or t i none).place (get_or t j none).place ≡ true
good_order t h i zero a b = absurd (omega arith)
good_order t h i (suc j) a b =
    elim (cases_lt i j) [
      | inl l ↦ before_trans _ _ _ (good_order t h i j l (omega arith)) (good_next t h j b)
      | inr l ↦
          let e : j ≡ i = omega (arith, l) in
          subst (λ (k : ℕ). before (get_or t k none).place (get_or t (suc j) none).place ≡ true) e (good_next t h j b)
    ]

pub good_in_order : (t : Table) → AllGood t → InOrder t
good_in_order t h i j g a b = rw (get_or_default t i g none (omega arith), get_or_default t j g none b) (good_order t h i j a b)

pub good_none_empty : (t : Table) → AllGood t → NoneEmpty t
good_none_empty t h i g l =
    let a = or_parts (out_of_bounds (get_or t i none).measure) (ltb 0 i && not (before (get_or t (i - 1) none).place (get_or t i none).place)) (h i l) in
    let b = or_parts (eqb (get_or t i none).measure.count 0) _ a.0 in
    let e = eqb-false (get_or t i none).measure.count 0 b.0 in
    rw (get_or_default t i g none l) (elim (cases_lt 0 (get_or t i none).measure.count) [ inl k ↦ k | inr k ↦ absurd (e (omega (arith, k))) ])

pub good_sound : (w : ℕ) (xs : List ℕ) → Whole w xs → AllGood (table_in w xs) → Sound w xs
good_sound w xs a h = record { whole = a; ordered = good_in_order _ h; filled = good_none_empty _ h }

pub first_bad : (w : ℕ) (xs : List ℕ) (n : ℕ) (r : Option ℕ) → n ≡ count_in w xs → Whole w xs
    → MatchOption r ((k : ℕ) → 0 ≤ k → k < n → bad (table_in w xs) k ≡ false)
    (λ i. (0 ≤ i) × (i < n) × (bad (table_in w xs) i ≡ true) × ((k : ℕ) → 0 ≤ k → k < i → bad (table_in w xs) k ≡ false))
    → elim r as (λ x. Type 0) [ Some i ↦ FirstBad (table_in w xs) i | None ↦ Sound w xs × AllGood (table_in w xs) ]
first_bad w xs n None e a h =
    let good : AllGood (table_in w xs) = λ k l. h k (omega arith) (omega (arith, table_length w xs)) in (good_sound w xs a good, good)
first_bad w xs n (Some i) e a h = (omega (arith, h.1, table_length w xs), h.2, λ k l. h.3 k (omega arith) l)

good_bounds : (t : Table) → AllGood t → (i : ℕ) → i < length t → ((get_or t i none).measure.count < 2 ^ 32) × ((get_or t i none).measure.sum < 2 ^ 50)
good_bounds t h i l =
    let m = (get_or t i none).measure in
    let a = or_parts (out_of_bounds m) (ltb 0 i && not (before (get_or t (i - 1) none).place (get_or t i none).place)) (h i l) in
    let b = or_parts (eqb m.count 0) (leb (2 ^ 32) m.count || leb (2 ^ 50) m.sum) a.0 in
    let d = or_parts (leb (2 ^ 32) m.count) (leb (2 ^ 50) m.sum) b.1 in
    (leb-false (2 ^ 32) m.count d.0, leb-false (2 ^ 50) m.sum d.1)

bounded_total : (t : Table) → ((i : ℕ) → i < length t → ((get_or t i none).measure.count < 2 ^ 32) × ((get_or t i none).measure.sum < 2 ^ 50))
    → ((total t).count ≤ 2 ^ 32 * length t) × ((total t).sum ≤ 2 ^ 50 * length t)
unfolding total
bounded_total [] h = (omega arith, omega arith)
bounded_total (g ∷ gs) h =
    let first = h 0 (omega arith) in
    let r = bounded_total gs (λ i l. h (suc i) (omega arith)) in
    (omega (arith, first.0, r.0), omega (arith, first.1, r.1))

pub good_total : (t : Table) → AllGood t → length t ≤ 4096 → ((total t).count ≤ 2 ^ 44) × ((total t).sum ≤ 2 ^ 62)
good_total t h l = let r = bounded_total t (good_bounds t h) in (omega (arith, r.0), omega (arith, r.1))
