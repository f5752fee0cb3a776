-- Every deed keeps the warehouse sound and within its room. Assumes nothing.
use Rattle.std.proofs.Common.{◌≡◌, ℕ, suc, ◌<◌, ◌≤◌, true, false, leb, List, [], ◌∷◌, ◌++◌, map, length, None, sym, refl, ◌∙◌, inl, inr, arith}
use Rattle.std.specs.List.{AllByRecursion as All}
use Rattle.std.proofs.ByRecursion.{All-get_or, All-from_get_or, All-weaker, All-map, All-push}
use Rattle.std.proofs.lemmas.List.{length-map, length_push}
use Rattle.std.proofs.lemmas.Bool.{leb-true, leb-false, cases_Bool}
use Rattle.hierarchy.specs.Dimensions.{Dims, Row}
use Rattle.hierarchy.specs.Levels.{same, finest}
use Rattle.hierarchy.specs.Facts.{Entry, copies, without}
use Rattle.hierarchy.specs.Places.{place_at}
use Rattle.hierarchy.specs.Reading.{levels_in, entry_in}
use Rattle.hierarchy.proofs.Laws.{finest_are_levels, levels_length}
use Rattle.hierarchy.proofs.Rows.{same_is}
use Rattle.totals.specs.Tables.{Table, take_out}
use Rattle.totals.proofs.Put.{take_out_none, take_out_last, take_out_less, take_out_on, rolled_length}
use Rattle.totals.proofs.Theory.{table_none, table_more, taken_back}
use Rattle.model.specs.House.{Kept, House, Limits, Deed, insert, delete, keep, drop_table, ask, empty, with_fact, without_fact, first_full, dropped, source, answer, refusal, after, step, end}
use Rattle.model.specs.Promises.{Sound, Whole, Valid}
use Rattle.hierarchy.proofs.Theory.{levels_read}
use Rattle.model.proofs.Steps.{step_done, step_refused, cases_refusal, cond_none, fact_whole, insert_done, delete_done, keep_done, drop_done}
use Rattle.model.proofs.Source.{Front, Good, source_all, answer_right}
use Rattle.model.proofs.Facts.{all_without, without_length}

-- Sound, table by table
pub sound_front : (ss : Dims) (h : House) → Sound ss h → Front ss h.kept
sound_front ss h s = record { some = s.some; first = s.first }

pub sound_good : (ss : Dims) (h : House) → Sound ss h → All (Good ss h.facts) h.kept
sound_good ss h s =
    let d : Kept = record { levels = []; cells = [] } in
    All-from_get_or (Good ss h.facts) h.kept d (λ i l. record { there = s.there i d l; right = s.right i d l })

pub sound_from : (ss : Dims) (h : House) → Front ss h.kept → All (Good ss h.facts) h.kept → Sound ss h
sound_from ss h f g =
    record {
      some = f.some;
      first = f.first;
      there = λ i d l. (All-get_or (Good ss h.facts) h.kept i d l g).there;
      right = λ i d l. (All-get_or (Good ss h.facts) h.kept i d l g).right;
    }

-- a fact comes to a table, and goes from it
pub with_good : (ss : Dims) (e : Entry) (es : List Entry) (k : Kept) → Good ss es k → Good ss (e ∷ es) (with_fact ss e k)
with_good ss e es k g = record { there = g.there; right = rw (g.right, table_more ss k.levels e es) }

pub without_good : (ss : Dims) (e : Entry) (es : List Entry) → 0 < copies e es → (k : Kept) → Good ss es k
    → Good ss (without e es) (without_fact ss e k)
without_good ss e es h k g = record { there = g.there; right = rw g.right (taken_back.1 ss k.levels e es h) }

-- the first table stays
front_map : (ss : Dims) (f : Kept → Kept) (ks : List Kept) → ((k : Kept) → (f k).levels ≡ k.levels) → Front ss ks → Front ss (map f ks)
front_map ss f [] q h = h
front_map ss f (k ∷ ks) q h = record { some = omega arith; first = λ d. q k ∙ h.first k }

front_push : (ss : Dims) (ks : List Kept) (k : Kept) → Front ss ks → Front ss (ks ++ k ∷ [])
front_push ss [] k h = absurd (omega (arith, h.some))
front_push ss (x ∷ xs) k h = record { some = omega arith; first = h.first }

-- the equations of dropped
pub dropped_none : (ls : Row) → dropped ls [] ≡ []
unfolding dropped
dropped_none ls = refl

pub dropped_here : (ls : Row) (k : Kept) (ks : List Kept) → same ls k.levels ≡ true → dropped ls (k ∷ ks) ≡ ks
unfolding dropped
dropped_here ls k ks h = rw h

pub dropped_on : (ls : Row) (k : Kept) (ks : List Kept) → same ls k.levels ≡ false → dropped ls (k ∷ ks) ≡ k ∷ dropped ls ks
unfolding dropped
dropped_on ls k ks h = rw h

pub all_dropped : (P : Kept → Type 0) (ls : Row) (ks : List Kept) → All P ks → All P (dropped ls ks)
all_dropped P ls [] a = rw (dropped_none ls) tt
all_dropped P ls (k ∷ ks) a =
    elim (cases_Bool (same ls k.levels)) [
      | inl e ↦ rw (dropped_here ls k ks e) a.1
      | inr e ↦ rw (dropped_on ls k ks e) (a.0, all_dropped P ls ks a.1)
    ]

dropped_length : (ls : Row) (ks : List Kept) → length (dropped ls ks) ≤ length ks
dropped_length ls [] = rw (dropped_none ls) (omega arith)
dropped_length ls (k ∷ ks) =
    elim (cases_Bool (same ls k.levels)) [
      | inl e ↦ rw (dropped_here ls k ks e) (omega arith)
      | inr e ↦ rw (dropped_on ls k ks e) (omega (arith, dropped_length ls ks))
    ]

front_dropped : (ss : Dims) (ls : Row) (ks : List Kept) → same ls (finest ss) ≡ false → Front ss ks → Front ss (dropped ls ks)
front_dropped ss ls [] n h = absurd (omega (arith, h.some))
front_dropped ss ls (k ∷ ks) n h =
    let e = h.first k in
    let m : same ls k.levels ≡ false = rw e n in
    rw (dropped_on ls k ks m) (record { some = omega arith; first = λ d. e })

-- no table is too full: each has room for the fact
pub full_none : (ss : Dims) (lim : Limits) (e : Entry) (i : ℕ) (ks : List Kept) → first_full ss lim e i ks ≡ None
    → All (λ k. length (with_fact ss e k).cells ≤ lim.groups) ks
unfolding first_full
full_none ss lim e i [] h = tt
full_none ss lim e i (k ∷ ks) h =
    let r = cond_none (leb (length (with_fact ss e k).cells) lim.groups) (first_full ss lim e (suc i) ks) i h in
    (leb-true _ _ r.0, full_none ss lim e (suc i) ks r.1)

-- a fact that goes leaves no more groups
pub take_out_length : (p : Row) (a : ℕ) (t : Table) → length (take_out p a t) ≤ length t
take_out_length p a [] = rw (take_out_none p a) (omega arith)
take_out_length p a (g ∷ gs) =
    elim (cases_Bool (same p g.place)) [
      | inl e ↦ elim (cases_Bool (leb g.measure.count 1)) [
        | inl k ↦ rw (take_out_last p a g gs (same_is p g.place e) (leb-true _ _ k)) (omega arith)
        | inr k ↦ rw (take_out_less p a g gs (same_is p g.place e) (leb-false _ _ k)) (omega arith)
      ]
      | inr e ↦ rw (take_out_on p a g gs e) (omega (arith, take_out_length p a gs))
    ]

-- a warehouse is sound when it is empty, and then after each deed
pub empty_sound : (ss : Dims) → Sound ss (empty ss)
empty_sound ss =
    sound_from ss (empty ss) (record { some = omega arith; first = λ d. refl })
    (record { there = finest_are_levels ss; right = sym (table_none ss (finest ss)) }, tt)

after_sound : (ss : Dims) (lim : Limits) (h : House) (d : Deed) → refusal ss lim h d ≡ None → Sound ss h → Sound ss (after ss h d)
after_sound ss lim h (insert xs) e s =
    let x = entry_in ss xs in
    sound_from ss (after ss h (insert xs)) (front_map ss (with_fact ss x) h.kept (λ k. refl) (sound_front ss h s))
    (All-map (Good ss (x ∷ h.facts)) (with_fact ss x) h.kept
    (All-weaker (Good ss h.facts) (λ k. Good ss (x ∷ h.facts) (with_fact ss x k)) (with_good ss x h.facts) h.kept (sound_good ss h s)))
after_sound ss lim h (delete xs) e s =
    let x = entry_in ss xs in
    let there = (delete_done ss lim h xs e).1 in
    sound_from ss (after ss h (delete xs)) (front_map ss (without_fact ss x) h.kept (λ k. refl) (sound_front ss h s))
    (All-map (Good ss (without x h.facts)) (without_fact ss x) h.kept
    (All-weaker (Good ss h.facts) (λ k. Good ss (without x h.facts) (without_fact ss x k)) (without_good ss x h.facts there) h.kept
    (sound_good ss h s)))
after_sound ss lim h (keep xs) e s =
    let ls = levels_in ss xs in
    let there = levels_read ss xs (keep_done ss lim h xs e).0 in
    let k : Kept = record { levels = ls; cells = answer ss ls h.kept } in
    let front = sound_front ss h s in
    let good = sound_good ss h s in
    sound_from ss (after ss h (keep xs)) (front_push ss h.kept k front)
    (All-push (Good ss h.facts) h.kept k good
    (record { there = there; right = answer_right ss ls h.facts h.kept front there good }))
after_sound ss lim h (drop_table xs) e s =
    let ls = levels_in ss xs in
    sound_from ss (after ss h (drop_table xs)) (front_dropped ss ls h.kept (drop_done ss lim h xs e).1 (sound_front ss h s))
    (all_dropped (Good ss h.facts) ls h.kept (sound_good ss h s))
after_sound ss lim h (ask xs n) e s = s

pub step_sound : (ss : Dims) (lim : Limits) (h : House) (d : Deed) → Sound ss h → Sound ss (step ss lim h d)
step_sound ss lim h d s =
    elim (cases_refusal (refusal ss lim h d)) [
      | inl e ↦ rw (step_done ss lim h d e) (after_sound ss lim h d e s)
      | inr r ↦ rw (step_refused ss lim h d r.0 r.1) s
    ]

pub empty_holds : (ss : Dims) (lim : Limits) → Valid ss lim (empty ss)
empty_holds ss lim =
    record { sound = empty_sound ss; whole = tt; few = omega arith; tables = omega arith; groups = (omega arith, tt) }

after_holds : (ss : Dims) (lim : Limits) (h : House) (d : Deed) → refusal ss lim h d ≡ None → Valid ss lim h → Valid ss lim (after ss h d)
after_holds ss lim h (insert xs) e s =
    let g = insert_done ss lim h xs e in
    let x = entry_in ss xs in
    record {
      sound = after_sound ss lim h (insert xs) e s.sound;
      whole = (fact_whole ss xs g.0, s.whole);
      few = omega (arith, g.1);
      tables = rw (length-map h.kept (with_fact ss x)) s.tables;
      groups = All-map (λ k. length k.cells ≤ lim.groups) (with_fact ss x) h.kept (full_none ss lim x 0 h.kept g.2);
    }
after_holds ss lim h (delete xs) e s =
    let g = delete_done ss lim h xs e in
    let x = entry_in ss xs in
    record {
      sound = after_sound ss lim h (delete xs) e s.sound;
      whole = all_without (Whole ss) x h.facts s.whole;
      few = omega (arith, without_length x h.facts g.1, s.few);
      tables = rw (length-map h.kept (without_fact ss x)) s.tables;
      groups = All-map (λ k. length k.cells ≤ lim.groups) (without_fact ss x) h.kept
          (All-weaker (λ k. length k.cells ≤ lim.groups) (λ k. length (without_fact ss x k).cells ≤ lim.groups)
          (λ k p. omega (arith, take_out_length (place_at ss k.levels x.place) x.amount k.cells)) h.kept s.groups);
    }
after_holds ss lim h (keep xs) e s =
    let g = keep_done ss lim h xs e in
    let ls = levels_in ss xs in
    let there = levels_read ss xs g.0 in
    let long = levels_length ss ls there in
    let k : Kept = record { levels = ls; cells = answer ss ls h.kept } in
    let from = source ss ls h.kept in
    record {
      sound = after_sound ss lim h (keep xs) e s.sound;
      whole = s.whole;
      few = s.few;
      tables = rw (length_push h.kept k) (omega (arith, g.2));
      groups = All-push (λ k. length k.cells ≤ lim.groups) h.kept k s.groups
          (omega (arith, rolled_length ss from.levels ls from.cells, source_all ss ls (λ k. length k.cells ≤ lim.groups) h.kept (sound_front ss h s.sound) long s.groups));
    }
after_holds ss lim h (drop_table xs) e s =
    let g = drop_done ss lim h xs e in
    let ls = levels_in ss xs in
    record {
      sound = after_sound ss lim h (drop_table xs) e s.sound;
      whole = s.whole;
      few = s.few;
      tables = omega (arith, dropped_length ls h.kept, s.tables);
      groups = all_dropped (λ k. length k.cells ≤ lim.groups) ls h.kept s.groups;
    }
after_holds ss lim h (ask xs n) e s = s

pub step_holds : (ss : Dims) (lim : Limits) (h : House) (d : Deed) → Valid ss lim h → Valid ss lim (step ss lim h d)
step_holds ss lim h d s =
    elim (cases_refusal (refusal ss lim h d)) [
      | inl e ↦ rw (step_done ss lim h d e) (after_holds ss lim h d e s)
      | inr r ↦ rw (step_refused ss lim h d r.0 r.1) s
    ]

pub end_holds : (ss : Dims) (lim : Limits) (ds : List Deed) (h : House) → Valid ss lim h → Valid ss lim (end ss lim h ds)
unfolding end
end_holds ss lim [] h s = s
end_holds ss lim (d ∷ ds) h s = end_holds ss lim ds (step ss lim h d) (step_holds ss lim h d s)
