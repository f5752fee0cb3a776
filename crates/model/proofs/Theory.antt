-- The promises of Promises.antt, proved. Assumes nothing.
use Rattle.std.proofs.Common.{◌≡◌, ℕ, ◌+◌, ◌<◌, ◌≤◌, true, false, ltb, List, [], ◌∷◌, map, length, get_or, Some, None, sym, refl, ap, ◌∙◌, inl, inr, mul-le-mul_left, arith}
use Rattle.std.specs.List.{ContainsAt as Has, AllByRecursion as All}
use Rattle.std.proofs.ByRecursion.{All-get_or, All-weaker, all_has_itself}
use Rattle.std.proofs.lemmas.Bool.{le-ltb}
use Rattle.hierarchy.specs.Dimensions.{Dims, Row}
use Rattle.hierarchy.specs.Levels.{are_levels, no_coarser, finest}
use Rattle.hierarchy.specs.Facts.{Entry, copies, without}
use Rattle.hierarchy.specs.Places.{place_at}
use Rattle.hierarchy.specs.Reading.{levels_refusal, levels_in, entry_in}
use Rattle.replies.specs.declared.Refusal.{Refusal}
use Rattle.hierarchy.proofs.Laws.{levels_length, no_coarser_finest}
use Rattle.totals.specs.Tables.{Measure, Table, put, table}
use Rattle.totals.specs.Cost.{size, cost}
use Rattle.totals.specs.Promises.{NoneEmpty}
use Rattle.totals.proofs.Put.{put_none, put_length}
use Rattle.totals.proofs.Theory.{table_more, table_none_empty, taken_back}
use Rattle.model.specs.House.{Kept, House, Limits, Deed, insert, delete, keep, drop_table, ask, shown, refused, empty, with_fact, without_fact, source, answer, table_length, refusal, after, answered, unless, step, told, end}
use Rattle.model.specs.Promises.{reached, Sound, Whole, AlwaysSound, FactsWhole, TotalsRight, AlwaysAnswered, comes, goes, came, went, FactsBalance, ComesAndGoes, facts_only, but_for_work, TablesUnseen, RefusedUntouched, NeverNothing, WithinLimits, WarehouseRight, Valid}
use Rattle.hierarchy.proofs.Theory.{levels_read}
use Rattle.model.proofs.Steps.{step_done, step_refused, told_done, told_refused, cases_refusal, insert_done, delete_done, ask_done}
use Rattle.model.proofs.Source.{Good, source_all, source_finer, source_least, source_cost, answer_right}
use Rattle.model.proofs.Facts.{copies_none, copies_more, copies_here, copies_without, without_here}
use Rattle.model.proofs.Laws.{insert_refusal, delete_accepted}
use Rattle.model.proofs.Sound.{sound_front, sound_good, empty_sound, step_sound, empty_holds, end_holds}

reached_holds : (ss : Dims) (lim : Limits) (ds : List Deed) → Valid ss lim (reached ss lim ds)
reached_holds ss lim ds = end_holds ss lim ds (empty ss) (empty_holds ss lim)

pub always_sound : AlwaysSound
always_sound ss lim ds = (reached_holds ss lim ds).sound

pub facts_whole : FactsWhole
facts_whole ss lim ds i d h = All-get_or (Whole ss) (reached ss lim ds).facts i d h (reached_holds ss lim ds).whole

pub within_limits : WithinLimits
within_limits ss lim ds =
    let r = reached_holds ss lim ds in
    (r.few, r.tables, λ i d h. All-get_or (λ k. length k.cells ≤ lim.groups) (reached ss lim ds).kept i d h r.groups)

-- what is shown is what was answered
refused_shown : {P : Type 0} (r : Refusal) (t : Table) (n : ℕ) → refused r ≡ shown t n → P
refused_shown r t n h = let z : ◌≡◌ {A = ℕ} 0 1 = cc in absurd (omega arith)

shown_done : (ss : Dims) (lim : Limits) (h : House) (xs : Row) (n : ℕ) (t : Table) (work : ℕ) → told ss lim h (ask xs n) ≡ shown t work
    → (refusal ss lim h (ask xs n) ≡ None) × (t ≡ answer ss (levels_in ss xs) h.kept) × (work ≡ length (source ss (levels_in ss xs) h.kept).cells)
shown_done ss lim h xs n t work q =
    elim (cases_refusal (refusal ss lim h (ask xs n))) [
      | inl e ↦ let a = told_done ss lim h (ask xs n) e in (e, (cc), (cc))
      | inr r ↦ refused_shown r.0 t work (sym (told_refused ss lim h (ask xs n) r.0 r.1) ∙ q)
    ]

-- an answer, for any sound warehouse
sound_totals : (ss : Dims) (lim : Limits) (h : House) → Sound ss h → (xs : Row) (n : ℕ) (t : Table) (work : ℕ)
    → told ss lim h (ask xs n) ≡ shown t work
    → (t ≡ table ss (levels_in ss xs) h.facts)
    × ((i : ℕ) (d : Kept) → i < length h.kept → no_coarser ss (get_or h.kept i d).levels (levels_in ss xs) ≡ true
    → work ≤ size ss h.facts (get_or h.kept i d).levels)
    × ((d : Kept) → (i : ℕ) × (i < length h.kept) × (no_coarser ss (get_or h.kept i d).levels (levels_in ss xs) ≡ true)
    × (work ≡ size ss h.facts (get_or h.kept i d).levels))
    × (work ≡ cost ss (size ss h.facts) (levels_in ss xs) (map (λ k. k.levels) h.kept))
sound_totals ss lim h s xs n t work q =
    let a = shown_done ss lim h xs n t work q in
    let ls = levels_in ss xs in
    let there = levels_read ss xs (ask_done ss lim h xs n a.0).0 in
    let long = levels_length ss ls there in
    let front = sound_front ss h s in
    let good = sound_good ss h s in
    let from = source ss ls h.kept in
    let is = source_all ss ls (Good ss h.facts) h.kept front long good in
    let has = source_all ss ls (Has h.kept) h.kept front long (all_has_itself h.kept) in
    let sizes = All-weaker (Good ss h.facts) (λ k. length k.cells ≡ size ss h.facts k.levels) (λ k g. ap length g.right) h.kept good in (
      a.1 ∙ answer_right ss ls h.facts h.kept front there good,
      (λ i d l e.
          let least = All-get_or (λ k. no_coarser ss k.levels ls ≡ true → length from.cells ≤ length k.cells) h.kept i d l (source_least ss ls h.kept) e in
          rw (a.2, ← s.right i d l) least),
      (λ d. (has.0, has.1, rw (has.2 d) (source_finer ss ls h.kept front long), rw (has.2 d) (a.2 ∙ ap length is.right))),
      a.2 ∙ source_cost ss ls (size ss h.facts) h.kept front long sizes,
    )

pub totals_right : TotalsRight
totals_right ss lim ds xs n t work q = sound_totals ss lim (reached ss lim ds) (always_sound ss lim ds) xs n t work q

-- levels that are there are answered, with the table of the facts
pub source_fits : (ss : Dims) (h : House) (ls : Row) → Sound ss h → are_levels ss ls ≡ true
    → length (source ss ls h.kept).cells ≤ size ss h.facts (finest ss)
source_fits ss h ls s there =
    let d : Kept = record { levels = []; cells = [] } in
    let finer : no_coarser ss (get_or h.kept 0 d).levels ls ≡ true = rw (s.first d) (no_coarser_finest ss ls (levels_length ss ls there)) in
    let least = All-get_or (λ k. no_coarser ss k.levels ls ≡ true → length (source ss ls h.kept).cells ≤ length k.cells) h.kept 0 d s.some (source_least ss ls h.kept) finer in
    let r = s.right 0 d s.some in
    let f = s.first d in
    let q : length (get_or h.kept 0 d).cells ≡ size ss h.facts (finest ss) = cc in
    omega (arith, least, q)

pub ask_answered : (ss : Dims) (lim : Limits) (h : House) → Sound ss h → (xs : Row) (n : ℕ) → levels_refusal ss xs ≡ None
    → table_length (length ss) (size ss h.facts (finest ss)) ≤ n
    → told ss lim h (ask xs n) ≡ shown (table ss (levels_in ss xs) h.facts) (length (source ss (levels_in ss xs) h.kept).cells)
ask_answered ss lim h s xs n l room =
    let ls = levels_in ss xs in
    let there = levels_read ss xs l in
    let work = length (source ss ls h.kept).cells in
    let more = mul-le-mul_left (length ss + 2) (source_fits ss h ls s there) in
    let fits : ltb n (table_length (length ss) work) ≡ false = le-ltb _ _ (omega (arith, more)) in
    let none : refusal ss lim h (ask xs n) ≡ None = rw (l, fits) in
    let a = told_done ss lim h (ask xs n) none in
    let b = answer_right ss ls h.facts h.kept (sound_front ss h s) there (sound_good ss h s) in
    cc

pub always_answered : AlwaysAnswered
always_answered ss lim ds xs n l room = (_, _, ask_answered ss lim (reached ss lim ds) (always_sound ss lim ds) xs n l room)

-- where there are facts there are groups
put_some : (p : Row) (m : Measure) (t : Table) → 0 < length (put p m t)
put_some p m [] = rw (put_none p m) (omega arith)
put_some p m (g ∷ gs) = elim (put_length p m (g ∷ gs)) [ inl k ↦ omega (arith, k) | inr k ↦ omega (arith, k) ]

table_some : (ss : Dims) (ls : Row) (es : List Entry) → 0 < length es → 0 < length (table ss ls es)
table_some ss ls [] h = absurd (omega arith)
table_some ss ls (e ∷ es) h = rw (table_more ss ls e es) (put_some _ _ _)

pub never_nothing : NeverNothing
never_nothing ss lim ds xs n t work q h =
    let r = totals_right ss lim ds xs n t work q in
    let es = (reached ss lim ds).facts in
    let k = r.2 (record { levels = []; cells = [] }) in
    (rw r.0 (table_some ss (levels_in ss xs) es h), rw k.3 (table_some ss _ es h))

-- a refused deed
answered_not : {P : Type 0} (ss : Dims) (h : House) (d : Deed) (r : Refusal) → answered ss h d ≡ refused r → P
answered_not ss h (insert xs) r q = let z : ◌≡◌ {A = ℕ} 0 1 = cc in absurd (omega arith)
answered_not ss h (delete xs) r q = let z : ◌≡◌ {A = ℕ} 0 1 = cc in absurd (omega arith)
answered_not ss h (keep xs) r q = let z : ◌≡◌ {A = ℕ} 0 1 = cc in absurd (omega arith)
answered_not ss h (drop_table xs) r q = let z : ◌≡◌ {A = ℕ} 0 1 = cc in absurd (omega arith)
answered_not ss h (ask xs n) r q = let z : ◌≡◌ {A = ℕ} 0 1 = cc in absurd (omega arith)

pub refused_untouched : RefusedUntouched
refused_untouched ss lim h d r = (
  λ q. elim (cases_refusal (refusal ss lim h d)) [
    | inl e ↦ answered_not ss h d r (sym (told_done ss lim h d e) ∙ q)
    | inr s ↦
        let a = told_refused ss lim h d s.0 s.1 in
        let b = s.1 in
        let c : s.0 ≡ r = cc in
        (b ∙ ap (λ x. Some x) c, step_refused ss lim h d s.0 b)
  ],
  λ e. (told_refused ss lim h d r e, step_refused ss lim h d r e),
)

-- what came and what went, deed by deed
came_none : (ss : Dims) (lim : Limits) (e : Entry) (h : House) → came ss lim e h [] ≡ 0
unfolding came
came_none ss lim e h = refl

came_more : (ss : Dims) (lim : Limits) (e : Entry) (h : House) (d : Deed) (ds : List Deed)
    → came ss lim e h (d ∷ ds) ≡ unless (refusal ss lim h d) (comes ss e d) 0 + came ss lim e (step ss lim h d) ds
unfolding came
came_more ss lim e h d ds = refl

went_none : (ss : Dims) (lim : Limits) (e : Entry) (h : House) → went ss lim e h [] ≡ 0
unfolding went
went_none ss lim e h = refl

went_more : (ss : Dims) (lim : Limits) (e : Entry) (h : House) (d : Deed) (ds : List Deed)
    → went ss lim e h (d ∷ ds) ≡ unless (refusal ss lim h d) (goes ss e d) 0 + went ss lim e (step ss lim h d) ds
unfolding went
went_more ss lim e h d ds = refl

end_none : (ss : Dims) (lim : Limits) (h : House) → end ss lim h [] ≡ h
unfolding end
end_none ss lim h = refl

end_more : (ss : Dims) (lim : Limits) (h : House) (d : Deed) (ds : List Deed) → end ss lim h (d ∷ ds) ≡ end ss lim (step ss lim h d) ds
unfolding end
end_more ss lim h d ds = refl

after_balance : (ss : Dims) (lim : Limits) (e : Entry) (h : House) (d : Deed) → refusal ss lim h d ≡ None
    → copies e (after ss h d).facts + goes ss e d ≡ copies e h.facts + comes ss e d
after_balance ss lim e h (insert xs) q = omega (arith, copies_more e (entry_in ss xs) h.facts)
after_balance ss lim e h (delete xs) q = omega (arith, copies_without e (entry_in ss xs) h.facts (delete_done ss lim h xs q).1)
after_balance ss lim e h (keep xs) q = refl
after_balance ss lim e h (drop_table xs) q = refl
after_balance ss lim e h (ask xs n) q = refl

step_balance : (ss : Dims) (lim : Limits) (e : Entry) (h : House) (d : Deed)
    → copies e (step ss lim h d).facts + unless (refusal ss lim h d) (goes ss e d) 0
    ≡ copies e h.facts + unless (refusal ss lim h d) (comes ss e d) 0
step_balance ss lim e h d =
    elim (cases_refusal (refusal ss lim h d)) [
      | inl q ↦ rw (step_done ss lim h d q, q) (after_balance ss lim e h d q)
      | inr r ↦ rw (step_refused ss lim h d r.0 r.1, r.1)
    ]

balance : (ss : Dims) (lim : Limits) (e : Entry) (ds : List Deed) (h : House)
    → copies e (end ss lim h ds).facts + went ss lim e h ds ≡ copies e h.facts + came ss lim e h ds
balance ss lim e [] h = rw (end_none ss lim h, went_none ss lim e h, came_none ss lim e h)
balance ss lim e (d ∷ ds) h =
    rw (end_more ss lim h d ds, went_more ss lim e h d ds, came_more ss lim e h d ds)
    (omega (arith, step_balance ss lim e h d, balance ss lim e ds (step ss lim h d)))

pub facts_balance : FactsBalance
facts_balance ss lim ds e = omega (arith, balance ss lim e ds (empty ss), copies_none e)

-- a fact that comes and goes
back : (ss : Dims) (e : Entry) (es : List Entry) (k : Kept) → Good ss es k → without_fact ss e (with_fact ss e k) ≡ k
back ss e es k g =
    let none : NoneEmpty k.cells = rw g.right (table_none_empty ss k.levels es) in
    let q = taken_back.0 (place_at ss k.levels e.place) e.amount k.cells none in
    ap (λ (t : Table). record { levels = k.levels; cells = t }) q

all_back : (ss : Dims) (e : Entry) (es : List Entry) (ks : List Kept) → All (Good ss es) ks
    → map (without_fact ss e) (map (with_fact ss e) ks) ≡ ks
all_back ss e es [] a = refl
all_back ss e es (k ∷ ks) a = let p = back ss e es k a.0 in let q = all_back ss e es ks a.1 in cc

pub sound_comes_and_goes : (ss : Dims) (lim : Limits) (h : House) (xs : Row) → Sound ss h → refusal ss lim h (insert xs) ≡ None
    → step ss lim (step ss lim h (insert xs)) (delete xs) ≡ h
sound_comes_and_goes ss lim h xs s q =
    let e = entry_in ss xs in
    let g = after ss h (insert xs) in
    let here = copies_here e h.facts in
    let accepted = delete_accepted ss lim g xs (insert_done ss lim h xs q).0 (omega (arith, here)) in
    let facts = without_here e h.facts in
    let tables = all_back ss e h.facts h.kept (sound_good ss h s) in
    rw (step_done ss lim h (insert xs) q, step_done ss lim g (delete xs) accepted, facts, tables)

pub comes_and_goes : ComesAndGoes
comes_and_goes ss lim ds xs q = sound_comes_and_goes ss lim (reached ss lim ds) xs (always_sound ss lim ds) q

-- Which tables are kept is not seen. Two sound warehouses with the same facts refuse the same facts
insert_alike : (ss : Dims) (lim : Limits) (h g : House) → Sound ss h → Sound ss g → h.facts ≡ g.facts → (xs : Row)
    → refusal ss lim h (insert xs) ≡ refusal ss lim g (insert xs)
insert_alike ss lim h g s r q xs = rw (insert_refusal ss lim h xs s, insert_refusal ss lim g xs r, q)

delete_alike : (ss : Dims) (lim : Limits) (h g : House) → h.facts ≡ g.facts → (xs : Row)
    → refusal ss lim h (delete xs) ≡ refusal ss lim g (delete xs)
delete_alike ss lim h g q xs = rw q

-- and the facts stay the same
step_alike : (ss : Dims) (lim : Limits) (h g : House) (d : Deed) → h.facts ≡ g.facts → refusal ss lim h d ≡ refusal ss lim g d
    → (after ss h d).facts ≡ (after ss g d).facts → (step ss lim h d).facts ≡ (step ss lim g d).facts
step_alike ss lim h g d q r a =
    elim (cases_refusal (refusal ss lim h d)) [
      | inl e ↦ rw (step_done ss lim h d e, step_done ss lim g d (sym r ∙ e)) a
      | inr x ↦ rw (step_refused ss lim h d x.0 x.1, step_refused ss lim g d x.0 (sym r ∙ x.1)) q
    ]

told_alike : (ss : Dims) (lim : Limits) (h g : House) (d : Deed) → refusal ss lim h d ≡ refusal ss lim g d
    → answered ss h d ≡ answered ss g d → told ss lim h d ≡ told ss lim g d
told_alike ss lim h g d r a =
    elim (cases_refusal (refusal ss lim h d)) [
      | inl e ↦ rw (told_done ss lim h d e, told_done ss lim g d (sym r ∙ e)) a
      | inr x ↦ rw (told_refused ss lim h d x.0 x.1, told_refused ss lim g d x.0 (sym r ∙ x.1))
    ]

-- as they do where a table is kept or dropped, or a question asked
step_same : (ss : Dims) (lim : Limits) (h : House) (d : Deed) → (after ss h d).facts ≡ h.facts → (step ss lim h d).facts ≡ h.facts
step_same ss lim h d a =
    elim (cases_refusal (refusal ss lim h d)) [
      | inl e ↦ rw (step_done ss lim h d e) a
      | inr x ↦ rw (step_refused ss lim h d x.0 x.1)
    ]

facts_alike : (ss : Dims) (lim : Limits) (ds : List Deed) (h g : House) → Sound ss h → Sound ss g → h.facts ≡ g.facts
    → (end ss lim h ds).facts ≡ (end ss lim g (facts_only ds)).facts
unfolding facts_only end
facts_alike ss lim [] h g s r q = q
facts_alike ss lim (insert xs ∷ ds) h g s r q =
    facts_alike ss lim ds (step ss lim h (insert xs)) (step ss lim g (insert xs)) (step_sound ss lim h (insert xs) s) (step_sound ss lim g (insert xs) r)
    (step_alike ss lim h g (insert xs) q (insert_alike ss lim h g s r q xs) (ap (λ es. entry_in ss xs ∷ es) q))
facts_alike ss lim (delete xs ∷ ds) h g s r q =
    facts_alike ss lim ds (step ss lim h (delete xs)) (step ss lim g (delete xs)) (step_sound ss lim h (delete xs) s) (step_sound ss lim g (delete xs) r)
    (step_alike ss lim h g (delete xs) q (delete_alike ss lim h g q xs) (ap (without (entry_in ss xs)) q))
facts_alike ss lim (keep xs ∷ ds) h g s r q =
    facts_alike ss lim ds (step ss lim h (keep xs)) g (step_sound ss lim h (keep xs) s) r (step_same ss lim h (keep xs) refl ∙ q)
facts_alike ss lim (drop_table xs ∷ ds) h g s r q =
    facts_alike ss lim ds (step ss lim h (drop_table xs)) g (step_sound ss lim h (drop_table xs) s) r (step_same ss lim h (drop_table xs) refl ∙ q)
facts_alike ss lim (ask xs n ∷ ds) h g s r q =
    facts_alike ss lim ds (step ss lim h (ask xs n)) (step ss lim g (ask xs n)) (step_sound ss lim h (ask xs n) s) (step_sound ss lim g (ask xs n) r)
    (step_same ss lim h (ask xs n) refl ∙ (q ∙ sym (step_same ss lim g (ask xs n) refl)))

-- a question is refused for its levels, or shown the table of the facts
ask_alike : (ss : Dims) (lim : Limits) (h g : House) → Sound ss h → Sound ss g → h.facts ≡ g.facts → (xs : Row) (n : ℕ)
    → table_length (length ss) (size ss h.facts (finest ss)) ≤ n
    → but_for_work (told ss lim h (ask xs n)) ≡ but_for_work (told ss lim g (ask xs n))
ask_alike ss lim h g s r q xs n room =
    elim (cases_refusal (levels_refusal ss xs)) [
      | inl e ↦
          let room-too : table_length (length ss) (size ss g.facts (finest ss)) ≤ n = rw (← q) room in
          rw (ask_answered ss lim h s xs n e room, ask_answered ss lim g r xs n e room-too, q)
      | inr x ↦
          let a : refusal ss lim h (ask xs n) ≡ Some x.0 = rw x.1 in
          let b : refusal ss lim g (ask xs n) ≡ Some x.0 = rw x.1 in
          rw (told_refused ss lim h (ask xs n) x.0 a, told_refused ss lim g (ask xs n) x.0 b)
    ]

pub tables_unseen : TablesUnseen
tables_unseen ss lim ds =
    let h = reached ss lim ds in
    let g = reached ss lim (facts_only ds) in
    let s = always_sound ss lim ds in
    let r = always_sound ss lim (facts_only ds) in
    let q = facts_alike ss lim ds (empty ss) (empty ss) (empty_sound ss) (empty_sound ss) refl in (
      q,
      (λ xs. told_alike ss lim h g (insert xs) (insert_alike ss lim h g s r q xs) refl),
      (λ xs. told_alike ss lim h g (delete xs) (delete_alike ss lim h g q xs) refl),
      (λ xs n room. ask_alike ss lim h g s r q xs n room),
    )

pub warehouse_right : WarehouseRight
warehouse_right = record { totals = totals_right; answered = always_answered; balance = facts_balance; unseen = tables_unseen }
