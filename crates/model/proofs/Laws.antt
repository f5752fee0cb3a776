-- The laws that proofs of code cite: each deed in a plain form, and how large the numbers of a warehouse can be. Assumes nothing.
use Rattle.std.proofs.Common.{◌≡◌, ℕ, suc, ◌+◌, ◌-◌, ◌*◌, ◌^◌, ◌<◌, ◌≤◌, Bool, true, false, cond, leb, List, [], ◌∷◌, ◌++◌, map, length, get_or, take, drop, Some, None, sym, refl, ap, ◌∙◌, subst, inl, inr, arith}
use Rattle.std.specs.Option.{option_map}
use Rattle.std.specs.List.{AllByRecursion as All}
use Rattle.std.proofs.ByRecursion.{All-weaker}
use Rattle.std.proofs.lemmas.Bool.{leb-true, le-leb, lt-leb, le-ltb, ne_eqb, cases_Bool}
use Rattle.hierarchy.specs.Dimensions.{Dims, Row}
use Rattle.hierarchy.specs.Levels.{same, finest}
use Rattle.hierarchy.specs.Facts.{Entry, copies, without}
use Rattle.hierarchy.specs.Places.{place_at}
use Rattle.hierarchy.specs.Reading.{levels_refusal, levels_in, fact_refusal, entry_in}
use Rattle.replies.specs.declared.Refusal.TheVariants.{LedgerFull, TableFull}
use Rattle.hierarchy.proofs.Laws.{levels_length, no_coarser_finest, place_at_length}
use Rattle.hierarchy.proofs.Rows.{same_is}
use Rattle.totals.specs.Tables.{Cell, Table, Measure, one, put, table}
use Rattle.totals.specs.Counts.{total}
use Rattle.totals.specs.Cost.{size}
use Rattle.totals.proofs.Put.{put_none, put_same, put_front, put_on, within_total}
use Rattle.totals.proofs.Order.{order}
use Rattle.totals.proofs.Theory.{table_none, table_more, table_total, coarser_smaller}
use Rattle.model.specs.House.{Kept, House, Limits, insert, delete, keep, drop_table, ask, with_fact, without_fact, first_full, kept_at, dropped, source, table_length, or_else, refuse_if, refusal, step}
use Rattle.model.specs.Promises.{Sound, Whole}
use Rattle.hierarchy.proofs.Theory.{levels_read}
use Rattle.model.proofs.Steps.{step_done, step_refused, cases_refusal, none_some, keep_done}
use Rattle.model.proofs.Source.{Good, answer_right}
use Rattle.model.proofs.Facts.{all_count, all_sum}
use Rattle.model.proofs.Sound.{sound_front, sound_good, with_good, dropped_here, dropped_on}

-- Insert. If the finest table has room for the fact, each has
none_full : (ss : Dims) (lim : Limits) (e : Entry) (i : ℕ) (ks : List Kept)
    → All (λ k. length (with_fact ss e k).cells ≤ lim.groups) ks → first_full ss lim e i ks ≡ None
unfolding first_full
none_full ss lim e i [] a = refl
none_full ss lim e i (k ∷ ks) a =
    rw (le-leb (length (with_fact ss e k).cells) lim.groups a.0) (none_full ss lim e (suc i) ks a.1)

-- a table is no larger than the finest, with the fact too
with_smaller : (ss : Dims) (e : Entry) (es : List Entry) (k : Kept) → Good ss es k
    → length (with_fact ss e k).cells ≤ size ss (e ∷ es) (finest ss)
with_smaller ss e es k g =
    rw (with_good ss e es k g).right
    (coarser_smaller.0 ss (finest ss) k.levels (e ∷ es) (no_coarser_finest ss k.levels (levels_length ss k.levels g.there)))

full_first_of : (ss : Dims) (lim : Limits) (e : Entry) (es : List Entry) (k : Kept) (ks : List Kept) → k.levels ≡ finest ss
    → All (Good ss es) (k ∷ ks)
    → first_full ss lim e 0 (k ∷ ks) ≡ cond (leb (size ss (e ∷ es) (finest ss)) lim.groups) None (Some 0)
unfolding first_full
full_first_of ss lim e es k ks f a =
    let r = (with_good ss e es k a.0).right in
    let same_size : length (with_fact ss e k).cells ≡ size ss (e ∷ es) (finest ss) = cc in
    rw same_size (go (leb (size ss (e ∷ es) (finest ss)) lim.groups) refl)
  where
    go : (v : Bool) → leb (size ss (e ∷ es) (finest ss)) lim.groups ≡ v
        → cond v (first_full ss lim e 1 ks) (Some 0) ≡ cond v None (Some 0)
    go true h =
        none_full ss lim e 1 ks
        (All-weaker (Good ss es) (λ x. length (with_fact ss e x).cells ≤ lim.groups)
        (λ x g. omega (arith, with_smaller ss e es x g, leb-true _ _ h)) ks a.1)
    go false h = refl

-- so that only the finest, the first, can be the first that is too full
pub full_first : (ss : Dims) (lim : Limits) (e : Entry) (h : House) → Sound ss h
    → first_full ss lim e 0 h.kept ≡ cond (leb (length (table ss (finest ss) (e ∷ h.facts))) lim.groups) None (Some 0)
full_first ss lim e h s = go h.kept s.some s.first (sound_good ss h s)
  where
    go : (ks : List Kept) → 0 < length ks → ((d : Kept) → (get_or ks 0 d).levels ≡ finest ss) → All (Good ss h.facts) ks
        → first_full ss lim e 0 ks ≡ cond (leb (size ss (e ∷ h.facts) (finest ss)) lim.groups) None (Some 0)
    go [] l f a = absurd (omega arith)
    go (k ∷ ks) l f a = full_first_of ss lim e h.facts k ks (f k) a

-- why a fact does not come, by the facts alone
pub insert_refusal : (ss : Dims) (lim : Limits) (h : House) (xs : Row) → Sound ss h
    → refusal ss lim h (insert xs)
    ≡ or_else (fact_refusal ss xs)
    (or_else (refuse_if (leb lim.facts (length h.facts)) (LedgerFull lim.facts))
    (cond (leb (size ss (entry_in ss xs ∷ h.facts) (finest ss)) lim.groups) None (Some (TableFull 0))))
insert_refusal ss lim h xs s = rw (full_first ss lim (entry_in ss xs) h s) (go (leb (size ss (entry_in ss xs ∷ h.facts) (finest ss)) lim.groups))
  where
    go : (v : Bool) → or_else (fact_refusal ss xs) (or_else (refuse_if (leb lim.facts (length h.facts)) (LedgerFull lim.facts))
        (option_map TableFull (cond v None (Some 0))))
        ≡ or_else (fact_refusal ss xs) (or_else (refuse_if (leb lim.facts (length h.facts)) (LedgerFull lim.facts))
        (cond v None (Some (TableFull 0))))
    go true = refl
    go false = refl

-- a deed that has what it asks for is not refused
pub insert_accepted : (ss : Dims) (lim : Limits) (h : House) (xs : Row) → Sound ss h → fact_refusal ss xs ≡ None
    → length h.facts < lim.facts → size ss (entry_in ss xs ∷ h.facts) (finest ss) ≤ lim.groups
    → refusal ss lim h (insert xs) ≡ None
insert_accepted ss lim h xs s f l g =
    rw (insert_refusal ss lim h xs s, f, lt-leb lim.facts (length h.facts) l, le-leb (size ss (entry_in ss xs ∷ h.facts) (finest ss)) lim.groups g)

pub delete_accepted : (ss : Dims) (lim : Limits) (h : House) (xs : Row) → fact_refusal ss xs ≡ None
    → 0 < copies (entry_in ss xs) h.facts → refusal ss lim h (delete xs) ≡ None
delete_accepted ss lim h xs f c = rw (f, ne_eqb (copies (entry_in ss xs) h.facts) 0 (λ e. absurd (omega arith)))

pub keep_accepted : (ss : Dims) (lim : Limits) (h : House) (xs : Row) → levels_refusal ss xs ≡ None
    → kept_at (levels_in ss xs) 0 h.kept ≡ None → length h.kept < 16 → refusal ss lim h (keep xs) ≡ None
keep_accepted ss lim h xs l k n = rw (l, k, lt-leb 16 (length h.kept) n)

pub drop_accepted : (ss : Dims) (lim : Limits) (h : House) (xs : Row) (i : ℕ) → levels_refusal ss xs ≡ None
    → same (levels_in ss xs) (finest ss) ≡ false → kept_at (levels_in ss xs) 0 h.kept ≡ Some i → refusal ss lim h (drop_table xs) ≡ None
drop_accepted ss lim h xs i l n k = rw (l, n, k)

pub ask_accepted : (ss : Dims) (lim : Limits) (h : House) (xs : Row) (n : ℕ) → levels_refusal ss xs ≡ None
    → table_length (length ss) (length (source ss (levels_in ss xs) h.kept).cells) ≤ n → refusal ss lim h (ask xs n) ≡ None
ask_accepted ss lim h xs n l m = rw (l, le-ltb n (table_length (length ss) (length (source ss (levels_in ss xs) h.kept).cells)) m)

-- Where a table is kept
pub kept_at_end : (ls : Row) (i : ℕ) → kept_at ls i [] ≡ None
unfolding kept_at
kept_at_end ls i = refl

pub kept_at_here : (ls : Row) (i : ℕ) (k : Kept) (ks : List Kept) → same ls k.levels ≡ true → kept_at ls i (k ∷ ks) ≡ Some i
unfolding kept_at
kept_at_here ls i k ks h = rw h

pub kept_at_on : (ls : Row) (i : ℕ) (k : Kept) (ks : List Kept) → same ls k.levels ≡ false → kept_at ls i (k ∷ ks) ≡ kept_at ls (suc i) ks
unfolding kept_at
kept_at_on ls i k ks h = rw h

-- the n-th table is found, and it is the one that is dropped
pub record Found (ls : Row) (ks : List Kept) (n : ℕ) : Type 0 where
  pub within : n < length ks
  pub levels : (d : Kept) → (get_or ks n d).levels ≡ ls
  pub rest : dropped ls ks ≡ take n ks ++ drop (suc n) ks

found_from : (ls : Row) (i j : ℕ) (ks : List Kept) → kept_at ls i ks ≡ Some j → (n : ℕ) × (j ≡ i + n) × Found ls ks n
found_from ls i j [] h = none_some j (sym (kept_at_end ls i) ∙ h)
found_from ls i j (k ∷ ks) h =
    elim (cases_Bool (same ls k.levels)) [
      | inl e ↦
          let a = kept_at_here ls i k ks e in
          let q : i ≡ j = cc in
          (0, omega (arith, q), record { within = omega arith; levels = λ d. sym (same_is ls k.levels e); rest = dropped_here ls k ks e })
      | inr e ↦
          let r = found_from ls (suc i) j ks (sym (kept_at_on ls i k ks e) ∙ h) in (
            suc r.0,
            omega (arith, r.1),
            record { within = omega (arith, r.2.within); levels = r.2.levels; rest = dropped_on ls k ks e ∙ ap (λ xs. k ∷ xs) r.2.rest },
          )
    ]

pub found : (ls : Row) (j : ℕ) (ks : List Kept) → kept_at ls 0 ks ≡ Some j → Found ls ks j
found ls j ks h =
    let r = found_from ls 0 j ks h in
    let q : r.0 ≡ j = omega (arith, r.1) in
    subst (λ (n : ℕ). Found ls ks n) q r.2

-- Each deed that is not refused, in a plain form
pub step_insert : (ss : Dims) (lim : Limits) (h : House) (xs : Row) → refusal ss lim h (insert xs) ≡ None
    → step ss lim h (insert xs) ≡ record { facts = entry_in ss xs ∷ h.facts; kept = map (with_fact ss (entry_in ss xs)) h.kept }
step_insert ss lim h xs e = step_done ss lim h (insert xs) e

pub step_delete : (ss : Dims) (lim : Limits) (h : House) (xs : Row) → refusal ss lim h (delete xs) ≡ None
    → step ss lim h (delete xs) ≡ record { facts = without (entry_in ss xs) h.facts; kept = map (without_fact ss (entry_in ss xs)) h.kept }
step_delete ss lim h xs e = step_done ss lim h (delete xs) e

pub step_keep : (ss : Dims) (lim : Limits) (h : House) (xs : Row) → Sound ss h → refusal ss lim h (keep xs) ≡ None
    → step ss lim h (keep xs)
    ≡ record { facts = h.facts; kept = h.kept ++ (record { levels = levels_in ss xs; cells = table ss (levels_in ss xs) h.facts } ∷ []) }
step_keep ss lim h xs s e =
    let there = levels_read ss xs (keep_done ss lim h xs e).0 in
    rw (step_done ss lim h (keep xs) e, answer_right ss (levels_in ss xs) h.facts h.kept (sound_front ss h s) there (sound_good ss h s))

pub step_drop : (ss : Dims) (lim : Limits) (h : House) (xs : Row) (i : ℕ) → kept_at (levels_in ss xs) 0 h.kept ≡ Some i
    → refusal ss lim h (drop_table xs) ≡ None
    → step ss lim h (drop_table xs) ≡ record { facts = h.facts; kept = take i h.kept ++ drop (suc i) h.kept }
step_drop ss lim h xs i k e = rw (step_done ss lim h (drop_table xs) e, (found (levels_in ss xs) i h.kept k).rest)

pub step_ask : (ss : Dims) (lim : Limits) (h : House) (xs : Row) (n : ℕ) → step ss lim h (ask xs n) ≡ h
step_ask ss lim h xs n =
    elim (cases_refusal (refusal ss lim h (ask xs n))) [
      | inl e ↦ step_done ss lim h (ask xs n) e
      | inr r ↦ step_refused ss lim h (ask xs n) r.0 r.1
    ]

-- How large the numbers can be: amounts are at most m
pub table_bounded : (ss : Dims) (ls : Row) (m : ℕ) (es : List Entry) → All (λ e. e.amount ≤ m) es
    → ((total (table ss ls es)).count ≡ length es) × ((total (table ss ls es)).sum ≤ m * length es)
table_bounded ss ls m es a = rw (table_total ss ls es) (all_count es, all_sum m es a)

-- all groups of a kept table, and each
pub record Bounded (es : List Entry) (t : Table) : Type 0 where
  pub counts : (total t).count ≡ length es
  pub sums : (total t).sum ≤ (2 ^ 32 - 1) * length es
  pub count : (j : ℕ) (c : Cell) → j < length t → (get_or t j c).measure.count ≤ length es
  pub sum : (j : ℕ) (c : Cell) → j < length t → (get_or t j c).measure.sum ≤ (2 ^ 32 - 1) * length es

pub cells_bounded : (ss : Dims) (h : House) → Sound ss h → All (Whole ss) h.facts
    → (i : ℕ) (d : Kept) → i < length h.kept → Bounded h.facts (get_or h.kept i d).cells
cells_bounded ss h s w i d l =
    let small = All-weaker (Whole ss) (λ e. e.amount ≤ 2 ^ 32 - 1) (λ e f. omega (arith, f.amount_small)) h.facts w in
    let b = table_bounded ss (get_or h.kept i d).levels (2 ^ 32 - 1) h.facts small in
    rw (s.right i d l)
    (record {
      counts = b.0;
      sums = b.1;
      count = λ j c k. omega (arith, (within_total (table ss (get_or h.kept i d).levels h.facts) j c k).0, b.0);
      sum = λ j c k. omega (arith, (within_total (table ss (get_or h.kept i d).levels h.facts) j c k).1, b.1);
    })

-- and how wide the places are
all_put : (P : Row → Type 0) (p : Row) (m : Measure) (t : Table) → P p → All (λ g. P g.place) t → All (λ g. P g.place) (put p m t)
all_put P p m [] q a = rw (put_none p m) (q, tt)
all_put P p m (g ∷ gs) q a =
    elim (order p g.place) [
      | inl e ↦ rw (put_same p m g gs e) a
      | inr s ↦ elim s [
        | inl e ↦ rw (put_front p m g gs e) (q, a)
        | inr e ↦ rw (put_on p m g gs e) (a.0, all_put P p m gs q a.1)
      ]
    ]

pub table_wide : (ss : Dims) (ls : Row) (es : List Entry) → length ls ≡ length ss → All (Whole ss) es
    → All (λ g. length g.place ≡ length ss) (table ss ls es)
table_wide ss ls [] l a = rw (table_none ss ls) tt
table_wide ss ls (e ∷ es) l a =
    rw (table_more ss ls e es)
    (all_put (λ p. length p ≡ length ss) (place_at ss ls e.place) (one e.amount) (table ss ls es)
    (place_at_length ss ls e.place l a.0.wide) (table_wide ss ls es l a.1))

pub cells_wide : (ss : Dims) (h : House) → Sound ss h → All (Whole ss) h.facts
    → (i : ℕ) (d : Kept) → i < length h.kept → All (λ g. length g.place ≡ length ss) (get_or h.kept i d).cells
cells_wide ss h s w i d l =
    rw (s.right i d l) (table_wide ss (get_or h.kept i d).levels h.facts (levels_length ss (get_or h.kept i d).levels (s.there i d l)) w)
