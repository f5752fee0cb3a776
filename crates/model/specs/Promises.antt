-- What a warehouse promises, for any dimensions, any room, and every list of deeds from an empty warehouse. Each is a statement; a
-- function's contract asks for its proof. Assumes nothing.
use Rattle.std.specs.Prelude.{◌≡◌, ℕ, ◌+◌, ◌^◌, ◌<◌, ◌≤◌, true, cond, List, [], ◌∷◌, map, length, Some, None, slice_index, slice_index_or}
use Rattle.std.specs.List.{AllByRecursion}
use Rattle.hierarchy.specs.Dimensions.{Dims, Row}
use Rattle.hierarchy.specs.Levels.{are_levels, no_coarser, finest}
use Rattle.hierarchy.specs.Facts.{Entry, same_fact, copies}
use Rattle.hierarchy.specs.Reading.{levels_refusal, levels_in, entry_in}
use Rattle.replies.specs.declared.Refusal.{Refusal}
use Rattle.totals.specs.Tables.{Table, table}
use Rattle.totals.specs.Cost.{size, cost}
use Rattle.model.specs.House.{Kept, House, Limits, Deed, insert, delete, keep, drop_table, ask, Told, done, shown, refused, empty, table_length, refusal, unless, step, told, end}

-- the warehouse that deeds lead to from an empty one
abbrev pub reached : Dims → Limits → List Deed → House
reached ss lim ds = end ss lim (empty ss) ds

-- every kept table is the table of the facts at its levels, and the finest is first
pub record Sound (ss : Dims) (h : House) : Type 0 where
  pub some : 0 < length h.kept
  pub first : (d : Kept) → (slice_index_or h.kept 0 d).levels ≡ finest ss
  pub there : (i : ℕ) (d : Kept) → i < length h.kept → are_levels ss (slice_index_or h.kept i d).levels ≡ true
  pub right : (i : ℕ) (d : Kept) → i < length h.kept → (slice_index_or h.kept i d).cells ≡ table ss (slice_index_or h.kept i d).levels h.facts

abbrev pub AlwaysSound : Type 0
AlwaysSound = (ss : Dims) (lim : Limits) (ds : List Deed) → Sound ss (reached ss lim ds)

-- a fact as it is stored: one number a dimension, each below 2^32, and so is the amount
pub record Whole (ss : Dims) (e : Entry) : Type 0 where
  pub wide : length e.place ≡ length ss
  pub small : (j : ℕ) → j < length ss → slice_index e.place j < 2 ^ 32
  pub amount_small : e.amount < 2 ^ 32

-- a warehouse as deeds leave it: it is sound, its facts are whole, and all is within its room
pub record Valid (ss : Dims) (lim : Limits) (h : House) : Type 0 where
  pub sound : Sound ss h
  pub whole : AllByRecursion (Whole ss) h.facts
  pub few : length h.facts ≤ lim.facts
  pub tables : length h.kept ≤ 16
  pub groups : AllByRecursion (λ k. length k.cells ≤ lim.groups) h.kept

-- every fact that is there is whole
abbrev pub FactsWhole : Type 0
FactsWhole =
    (ss : Dims) (lim : Limits) (ds : List Deed) (i : ℕ) (d : Entry) → i < length (reached ss lim ds).facts
    → Whole ss (slice_index_or (reached ss lim ds).facts i d)

-- an answer shows the table of the facts that are then there, group by group; its work is the size of some kept table that is no
-- coarser, is no more than the size of any, and is what `cost` says of the kept levels
abbrev pub TotalsRight : Type 0
TotalsRight =
    (ss : Dims) (lim : Limits) (ds : List Deed) (xs : Row) (n : ℕ) (t : Table) (work : ℕ)
    → told ss lim (reached ss lim ds) (ask xs n) ≡ shown t work
    → let h = reached ss lim ds in
    (t ≡ table ss (levels_in ss xs) h.facts)
    × ((i : ℕ) (d : Kept) → i < length h.kept → no_coarser ss (slice_index_or h.kept i d).levels (levels_in ss xs) ≡ true
    → work ≤ size ss h.facts (slice_index_or h.kept i d).levels)
    × ((d : Kept) → (i : ℕ) × (i < length h.kept) × (no_coarser ss (slice_index_or h.kept i d).levels (levels_in ss xs) ≡ true)
    × (work ≡ size ss h.facts (slice_index_or h.kept i d).levels))
    × (work ≡ cost ss (size ss h.facts) (levels_in ss xs) (map (λ k. k.levels) h.kept))

-- levels that are there are answered, if the lent row has room for the finest table's groups
abbrev pub AlwaysAnswered : Type 0
AlwaysAnswered =
    (ss : Dims) (lim : Limits) (ds : List Deed) (xs : Row) (n : ℕ) → levels_refusal ss xs ≡ None
    → table_length (length ss) (size ss (reached ss lim ds).facts (finest ss)) ≤ n
    → (t : Table) × (work : ℕ) × (told ss lim (reached ss lim ds) (ask xs n) ≡ shown t work)

-- whether a deed is that fact's coming, or its going
abbrev pub comes : Dims → Entry → Deed → ℕ
comes ss e (insert xs) = cond (same_fact e (entry_in ss xs)) 1 0
comes ss e (delete xs) = 0
comes ss e (keep xs) = 0
comes ss e (drop_table xs) = 0
comes ss e (ask xs n) = 0

abbrev pub goes : Dims → Entry → Deed → ℕ
goes ss e (insert xs) = 0
goes ss e (delete xs) = cond (same_fact e (entry_in ss xs)) 1 0
goes ss e (keep xs) = 0
goes ss e (drop_table xs) = 0
goes ss e (ask xs n) = 0

-- how often a fact came by deeds that were done, and how often it went
unfoldable pub came : Dims → Limits → Entry → House → List Deed → ℕ
came ss lim e h [] = 0
came ss lim e h (d ∷ ds) = unless (refusal ss lim h d) (comes ss e d) 0 + came ss lim e (step ss lim h d) ds

unfoldable pub went : Dims → Limits → Entry → House → List Deed → ℕ
went ss lim e h [] = 0
went ss lim e h (d ∷ ds) = unless (refusal ss lim h d) (goes ss e d) 0 + went ss lim e (step ss lim h d) ds

-- for every fact: how often it is there, and how often it went, is how often it came
abbrev pub FactsBalance : Type 0
FactsBalance =
    (ss : Dims) (lim : Limits) (ds : List Deed) (e : Entry)
    → copies e (reached ss lim ds).facts + went ss lim e (empty ss) ds ≡ came ss lim e (empty ss) ds

-- a fact that comes and goes leaves the whole warehouse as it was
abbrev pub ComesAndGoes : Type 0
ComesAndGoes =
    (ss : Dims) (lim : Limits) (ds : List Deed) (xs : Row) → refusal ss lim (reached ss lim ds) (insert xs) ≡ None
    → step ss lim (step ss lim (reached ss lim ds) (insert xs)) (delete xs) ≡ reached ss lim ds

-- the deeds without those that keep and drop tables
unfoldable pub facts_only : List Deed → List Deed
facts_only [] = []
facts_only (insert xs ∷ ds) = insert xs ∷ facts_only ds
facts_only (delete xs ∷ ds) = delete xs ∷ facts_only ds
facts_only (keep xs ∷ ds) = facts_only ds
facts_only (drop_table xs ∷ ds) = facts_only ds
facts_only (ask xs n ∷ ds) = ask xs n ∷ facts_only ds

-- a reply without its work
abbrev pub but_for_work : Told → Told
but_for_work done = done
but_for_work (shown t n) = shown t 0
but_for_work (refused r) = refused r

-- which tables are kept is seen in no reply but for the work: with keep and drop left out the facts are the same, inserts and deletes get
-- the same replies, and so do questions, if the lent row has room for the finest table's groups
abbrev pub TablesUnseen : Type 0
TablesUnseen =
    (ss : Dims) (lim : Limits) (ds : List Deed) →
    let h = reached ss lim ds in
    let g = reached ss lim (facts_only ds) in
    (h.facts ≡ g.facts)
    × ((xs : Row) → told ss lim h (insert xs) ≡ told ss lim g (insert xs))
    × ((xs : Row) → told ss lim h (delete xs) ≡ told ss lim g (delete xs))
    × ((xs : Row) (n : ℕ) → table_length (length ss) (size ss h.facts (finest ss)) ≤ n
    → but_for_work (told ss lim h (ask xs n)) ≡ but_for_work (told ss lim g (ask xs n)))

-- a refused deed changes nothing, and is told with the first reason of its list
abbrev pub RefusedUntouched : Type 0
RefusedUntouched =
    (ss : Dims) (lim : Limits) (h : House) (d : Deed) (r : Refusal)
    → (told ss lim h d ≡ refused r → (refusal ss lim h d ≡ Some r) × (step ss lim h d ≡ h))
    × (refusal ss lim h d ≡ Some r → (told ss lim h d ≡ refused r) × (step ss lim h d ≡ h))

-- where there are facts, an answer has groups, and work was done for it
abbrev pub NeverNothing : Type 0
NeverNothing =
    (ss : Dims) (lim : Limits) (ds : List Deed) (xs : Row) (n : ℕ) (t : Table) (work : ℕ)
    → told ss lim (reached ss lim ds) (ask xs n) ≡ shown t work → 0 < length (reached ss lim ds).facts → (0 < length t) × (0 < work)

-- there are never more facts, groups or tables than their room
abbrev pub WithinLimits : Type 0
WithinLimits =
    (ss : Dims) (lim : Limits) (ds : List Deed) →
    let h = reached ss lim ds in
    (length h.facts ≤ lim.facts) × (length h.kept ≤ 16)
    × ((i : ℕ) (d : Kept) → i < length h.kept → length (slice_index_or h.kept i d).cells ≤ lim.groups)

-- one theorem over every list of deeds
pub record WarehouseRight : Type 0 where
  pub totals : TotalsRight
  pub answered : AlwaysAnswered
  pub balance : FactsBalance
  pub unseen : TablesUnseen
