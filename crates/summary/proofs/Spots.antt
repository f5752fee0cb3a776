-- Where a place stands in a table: what a search by halves goes by, and what put and take_out do there. Assumes nothing.
use Rattle.std.proofs.Common.{◌≡◌, ℕ, zero, suc, ◌+◌, ◌<◌, ◌≤◌, Bool, true, false, cond, [], ◌∷◌, length, get_or, set, sym, refl, ap, ◌∙◌, subst, inl, inr, arith}
use Rattle.std.specs.List.{insert, remove}
use Rattle.std.specs.declared.cmp.Ordering.TheVariants.{Less, Equal, Greater}
use Rattle.std.specs.declared.cmp.Ordering.{Ordering}
use Rattle.std.specs.Cmp.Lexicographic.{slice_cmp}
use Rattle.std.specs.Ordering.{nat_cmp, is_lt, is_eq, is_gt}
use Rattle.std.proofs.lemmas.Cmp.{same_from_slice_cmp}
use Rattle.std.proofs.lemmas.Bool.Decides.{nat_tests}
use Rattle.std.proofs.lemmas.Bool.{cases_lt, cases_Bool, or_left, or_right, or_from}
use Rattle.hierarchy.specs.Dimensions.{Row}
use Rattle.hierarchy.specs.Levels.{same}
use Rattle.totals.specs.Tables.{Measure, Cell, Table, join, less, before, put, take_out}
use Rattle.totals.specs.Counts.{at}
use Rattle.totals.specs.Promises.{InOrder}
use Rattle.summary.specs.Memory.{none, Compared, held, Stands, WouldStand}
use Rattle.hierarchy.proofs.Rows.{is_same, same_is}
use Rattle.totals.proofs.Order.{before_irrefl, before_trans, before_not_back, before_not_same, before_not_same_back}
use Rattle.totals.proofs.Put.{put_none, put_same, put_front, put_on, take_out_last, take_out_less, take_out_on, in_order_first, in_order_rest, at_more}

-- what the order of slices says of two places
lesser : (p q : Row) (r : Ordering) → r ≡ slice_cmp nat_cmp p q → is_lt r ≡ before p q
unfolding before
lesser = same_from_slice_cmp nat_cmp is_lt before refl (λ _ _. refl) (λ _ _. refl) (λ x y xs ys o h. grind (arith, nat_tests))

greater : (p q : Row) (r : Ordering) → r ≡ slice_cmp nat_cmp p q → is_gt r ≡ before q p
unfolding before
greater = same_from_slice_cmp nat_cmp is_gt (λ p q. before q p) refl (λ _ _. refl) (λ _ _. refl) (λ x y xs ys o h. grind (arith, nat_tests))

equal : (p q : Row) (r : Ordering) → r ≡ slice_cmp nat_cmp p q → is_eq r ≡ same p q
unfolding same
equal = same_from_slice_cmp nat_cmp is_eq same refl (λ _ _. refl) (λ _ _. refl) (λ x y xs ys o h. grind (arith, nat_tests))

pub compared : (p q : Row) (r : Ordering) → r ≡ slice_cmp nat_cmp p q → Compared p q r
compared p q Less e = sym (lesser p q Less e)
compared p q Equal e = same_is p q (sym (equal p q Equal e))
compared p q Greater e = sym (greater p q Greater e)

pub same_not_before : (p q : Row) → p ≡ q → before p q ≡ false
same_not_before p q e =
    elim (cases_Bool (before p q)) [
      | inl a ↦ absurd (before_irrefl p (subst (λ (r : Row). before p r ≡ true) (sym e) a))
      | inr b ↦ b
    ]

pub behind_is_gt : (p q : Row) (r : Ordering) → Compared p q r → is_gt r ≡ before q p
behind_is_gt p q Less h = sym (before_not_back p q h)
behind_is_gt p q Equal h = sym (same_not_before q p (sym h))
behind_is_gt p q Greater h = sym h

-- what comes before a group that comes before p, and what comes behind one that comes behind p
pub all_before : (t : Table) (m : ℕ) (p : Row) → InOrder t → m < length t → before (get_or t m none).place p ≡ true
    → (j : ℕ) → j < m + 1 → before (get_or t j none).place p ≡ true
all_before t m p o l h j k =
    elim (cases_lt j m) [
      | inl a ↦ before_trans _ (get_or t m none).place p (o j m none a l) h
      | inr b ↦ let e : m ≡ j = omega (arith, b) in subst (λ (i : ℕ). before (get_or t i none).place p ≡ true) e h
    ]

pub all_behind : (t : Table) (m : ℕ) (p : Row) → InOrder t → before p (get_or t m none).place ≡ true
    → (j : ℕ) → m ≤ j → j < length t → before p (get_or t j none).place ≡ true
all_behind t m p o h j k l =
    elim (cases_lt m j) [
      | inl a ↦ before_trans p (get_or t m none).place _ h (o m j none a l)
      | inr b ↦ let e : m ≡ j = omega (arith, b) in subst (λ (i : ℕ). before p (get_or t i none).place ≡ true) e h
    ]

-- the groups before the one that stands at p come before p
first_before : (p : Row) (g : Cell) (gs : Table) (i : ℕ) → InOrder (g ∷ gs) → Stands p gs i → before g.place p ≡ true
first_before p g gs i o s = subst (λ (q : Row). before g.place q ≡ true) s.1 (in_order_first g gs o i none s.0)

rest_stands : (p : Row) (g : Cell) (gs : Table) (i : ℕ) → Stands p (g ∷ gs) (suc i) → Stands p gs i
rest_stands p g gs i s = (omega (arith, s.0), s.1)

-- facts come to the group that stands there
pub put_stands : (p : Row) (m : Measure) (t : Table) (i : ℕ) → InOrder t → Stands p t i
    → put p m t ≡ set t i (record { place = (get_or t i none).place; measure = join (get_or t i none).measure m })
put_stands p m [] i o s = absurd (omega (arith, s.0))
put_stands p m (g ∷ gs) zero o s = put_same p m g gs (sym s.1)
put_stands p m (g ∷ gs) (suc i) o s =
    let r = rest_stands p g gs i s in
    put_on p m g gs (first_before p g gs i o r) ∙ ap (λ u. g ∷ u) (put_stands p m gs i (in_order_rest g gs o) r)

-- or make a new one
pub put_would : (p : Row) (m : Measure) (t : Table) (i : ℕ) → WouldStand p t i → put p m t ≡ insert t i (record { place = p; measure = m })
put_would p m [] zero s = put_none p m
put_would p m [] (suc i) s = absurd (omega (arith, s.0))
put_would p m (g ∷ gs) zero s = put_front p m g gs (s.2 0 (omega arith) (omega arith))
put_would p m (g ∷ gs) (suc i) s =
    put_on p m g gs (s.1 0 (omega arith))
    ∙ ap (λ u. g ∷ u)
    (put_would p m gs i (omega (arith, s.0), λ j l. s.1 (suc j) (omega arith), λ j l k. s.2 (suc j) (omega arith) (omega arith)))

-- a fact goes from the group that stands there
pub take_out_stands_last : (p : Row) (a : ℕ) (t : Table) (i : ℕ) → InOrder t → Stands p t i → (get_or t i none).measure.count ≤ 1
    → take_out p a t ≡ remove t i
take_out_stands_last p a [] i o s l = absurd (omega (arith, s.0))
take_out_stands_last p a (g ∷ gs) zero o s l = take_out_last p a g gs (sym s.1) l
take_out_stands_last p a (g ∷ gs) (suc i) o s l =
    let r = rest_stands p g gs i s in
    take_out_on p a g gs (before_not_same_back g.place p (first_before p g gs i o r))
    ∙ ap (λ u. g ∷ u) (take_out_stands_last p a gs i (in_order_rest g gs o) r l)

pub take_out_stands_less : (p : Row) (a : ℕ) (t : Table) (i : ℕ) → InOrder t → Stands p t i → 1 < (get_or t i none).measure.count
    → take_out p a t ≡ set t i (record { place = (get_or t i none).place; measure = less a (get_or t i none).measure })
take_out_stands_less p a [] i o s l = absurd (omega (arith, s.0))
take_out_stands_less p a (g ∷ gs) zero o s l = take_out_less p a g gs (sym s.1) l
take_out_stands_less p a (g ∷ gs) (suc i) o s l =
    let r = rest_stands p g gs i s in
    take_out_on p a g gs (before_not_same_back g.place p (first_before p g gs i o r))
    ∙ ap (λ u. g ∷ u) (take_out_stands_less p a gs i (in_order_rest g gs o) r l)

-- there is a group where one stands, and none where one would
pub held_stands : (p : Row) (t : Table) (i : ℕ) → Stands p t i → held p t ≡ true
unfolding held
held_stands p [] i s = absurd (omega (arith, s.0))
held_stands p (g ∷ gs) zero s = or_left _ _ (is_same p g.place (sym s.1))
held_stands p (g ∷ gs) (suc i) s = or_right _ _ (held_stands p gs i (rest_stands p g gs i s))

none_held : (p : Row) (t : Table) → ((j : ℕ) → j < length t → same p (get_or t j none).place ≡ false) → held p t ≡ false
unfolding held
none_held p [] h = refl
none_held p (g ∷ gs) h = or_from _ _ (h 0 (omega arith)) (none_held p gs (λ j l. h (suc j) (omega arith)))

pub held_would : (p : Row) (t : Table) (i : ℕ) → WouldStand p t i → held p t ≡ false
held_would p t i s =
    none_held p t (λ j l. elim (cases_lt j i) [
      | inl a ↦ before_not_same_back _ p (s.1 j a)
      | inr b ↦ before_not_same p _ (s.2 j b l)
    ])

-- the group that stands there is within what the table has there
pub at_stands : (p : Row) (t : Table) (i : ℕ) → Stands p t i
    → ((get_or t i none).measure.count ≤ (at p t).count) × ((get_or t i none).measure.sum ≤ (at p t).sum)
at_stands p [] i s = absurd (omega (arith, s.0))
at_stands p (g ∷ gs) zero s = rw (at_more p g gs, is_same p g.place (sym s.1)) (omega arith, omega arith)
at_stands p (g ∷ gs) (suc i) s =
    let r = at_stands p gs i (rest_stands p g gs i s) in
    rw (at_more p g gs) (at_least (same p g.place) (get_or gs i none).measure (at p gs) g.measure r)
  where
    at_least : (b : Bool) (m n k : Measure) → (m.count ≤ n.count) × (m.sum ≤ n.sum)
        → (m.count ≤ (cond b (join k n) n).count) × (m.sum ≤ (cond b (join k n) n).sum)
    at_least true m n k r = (omega (arith, r.0), omega (arith, r.1))
    at_least false m n k r = r
