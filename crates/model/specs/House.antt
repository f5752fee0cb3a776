-- The warehouse as the proofs see it: the facts, and the tables that are kept. Assumes nothing: these are definitions.
use Rattle.std.specs.Prelude.{ℕ, suc, ◌+◌, ◌*◌, Bool, true, false, cond, ◌&&◌, List, [], ◌∷◌, ◌++◌, map, length, Some, None, Option, ◌==◌, nat_le, nat_lt}
use Rattle.std.specs.Option.{option_map}
use Rattle.hierarchy.specs.Dimensions.{Dims, Row}
use Rattle.hierarchy.specs.Levels.{same, no_coarser, finest}
use Rattle.hierarchy.specs.Facts.{Entry, copies, without}
use Rattle.hierarchy.specs.Places.{place_at}
use Rattle.hierarchy.specs.Reading.{levels_refusal, levels_in, fact_refusal, entry_in}
use Rattle.replies.specs.declared.Refusal.{Refusal}
use Rattle.replies.specs.declared.Refusal.TheVariants.{NoRoom, NoSuchFact, AlreadyKept, FinestStays, NotKept, LedgerFull, TableFull, AllKept}
use Rattle.totals.specs.Tables.{Table, one, put, take_out, rolled}

-- a kept table: its levels and its groups
pub record Kept : Type 0 where
  pub levels : Row
  pub cells : Table

-- the facts, the newest first, and the kept tables, the finest first
pub record House : Type 0 where
  pub facts : List Entry
  pub kept : List Kept

-- how many facts there may be, and how many groups a table may have
pub record Limits : Type 0 where
  pub facts : ℕ
  pub groups : ℕ

-- what can be asked of the warehouse, by the numbers that come with it; with ask also the length of the lent row
pub data Deed : Type 0 where
  insert : Row → Deed
  delete : Row → Deed
  keep : Row → Deed
  drop_table : Row → Deed
  ask : Row → ℕ → Deed

pub data Told : Type 0 where
  done : Told
  shown : Table → ℕ → Told  -- the groups, and how many groups were looked at
  refused : Refusal → Told

abbrev pub empty : Dims → House
empty ss = record { facts = []; kept = record { levels = finest ss; cells = [] } ∷ [] }

-- a fact comes to a table, and goes from it
abbrev pub with_fact : Dims → Entry → Kept → Kept
with_fact ss e k = record { levels = k.levels; cells = put (place_at ss k.levels e.place) (one e.amount) k.cells }

abbrev pub without_fact : Dims → Entry → Kept → Kept
without_fact ss e k = record { levels = k.levels; cells = take_out (place_at ss k.levels e.place) e.amount k.cells }

-- the place of the first table, counted from i, that would have more groups than its room
unfoldable pub first_full : Dims → Limits → Entry → ℕ → List Kept → Option ℕ
first_full ss lim e i [] = None
first_full ss lim e i (k ∷ ks) = cond (nat_le (length (with_fact ss e k).cells) lim.groups) (first_full ss lim e (suc i) ks) (Some i)

-- the place of the table that is kept at these levels, counted from i
unfoldable pub kept_at : Row → ℕ → List Kept → Option ℕ
kept_at ls i [] = None
kept_at ls i (k ∷ ks) = cond (same ls k.levels) (Some i) (kept_at ls (suc i) ks)

unfoldable pub dropped : Row → List Kept → List Kept
dropped ls [] = []
dropped ls (k ∷ ks) = cond (same ls k.levels) ks (k ∷ dropped ls ks)

-- of the kept tables that are no coarser, one with fewest groups, the first of several
unfoldable pub better : Dims → Row → Kept → List Kept → Kept
better ss ls k [] = k
better ss ls k (x ∷ xs) = better ss ls (cond (no_coarser ss x.levels ls && nat_lt (length x.cells) (length k.cells)) x k) xs

unfoldable pub source : Dims → Row → List Kept → Kept
source ss ls [] = record { levels = finest ss; cells = [] }
source ss ls (k ∷ ks) = better ss ls k ks

-- the totals at levels, made of that table
abbrev pub answer : Dims → Row → List Kept → Table
answer ss ls ks = rolled ss (source ss ls ks).levels ls (source ss ls ks).cells

-- how many numbers a table with n groups takes: its levels, its count, and for each group a place, a count and a sum
abbrev pub table_length : ℕ → ℕ → ℕ
table_length w n = w + 1 + (w + 2) * n

-- the first reason that applies, else the next
abbrev pub or_else : Option Refusal → Option Refusal → Option Refusal
or_else None s = s
or_else (Some r) s = Some r

abbrev pub refuse_if : Bool → Refusal → Option Refusal
refuse_if true r = Some r
refuse_if false r = None

abbrev pub not_kept : Option ℕ → Option Refusal
not_kept None = Some NotKept
not_kept (Some i) = None

-- why a deed is refused, if it is: the first reason of its list
abbrev pub refusal : Dims → Limits → House → Deed → Option Refusal
refusal ss lim h (insert xs) =
    or_else (fact_refusal ss xs) (or_else (refuse_if (nat_le lim.facts (length h.facts)) (LedgerFull lim.facts)) (option_map TableFull (first_full ss lim (entry_in ss xs) 0 h.kept)))
refusal ss lim h (delete xs) = or_else (fact_refusal ss xs) (refuse_if (copies (entry_in ss xs) h.facts == 0) NoSuchFact)
refusal ss lim h (keep xs) =
    or_else (levels_refusal ss xs) (or_else (option_map AlreadyKept (kept_at (levels_in ss xs) 0 h.kept)) (refuse_if (nat_le 16 (length h.kept)) AllKept))
refusal ss lim h (drop_table xs) =
    or_else (levels_refusal ss xs) (or_else (refuse_if (same (levels_in ss xs) (finest ss)) FinestStays) (not_kept (kept_at (levels_in ss xs) 0 h.kept)))
refusal ss lim h (ask xs n) =
    or_else (levels_refusal ss xs) (refuse_if (nat_lt n (table_length (length ss) (length (source ss (levels_in ss xs) h.kept).cells))) (NoRoom n))

-- the warehouse after a deed that is not refused
abbrev pub after : Dims → House → Deed → House
after ss h (insert xs) = record { facts = entry_in ss xs ∷ h.facts; kept = map (with_fact ss (entry_in ss xs)) h.kept }
after ss h (delete xs) = record { facts = without (entry_in ss xs) h.facts; kept = map (without_fact ss (entry_in ss xs)) h.kept }
after ss h (keep xs) =
    record { facts = h.facts; kept = h.kept ++ (record { levels = levels_in ss xs; cells = answer ss (levels_in ss xs) h.kept } ∷ []) }
after ss h (drop_table xs) = record { facts = h.facts; kept = dropped (levels_in ss xs) h.kept }
after ss h (ask xs n) = h

-- and what is told then
abbrev pub answered : Dims → House → Deed → Told
answered ss h (insert xs) = done
answered ss h (delete xs) = done
answered ss h (keep xs) = done
answered ss h (drop_table xs) = done
answered ss h (ask xs n) = shown (answer ss (levels_in ss xs) h.kept) (length (source ss (levels_in ss xs) h.kept).cells)

abbrev pub unless : {A : Type 0} → Option Refusal → A → A → A
unless None a b = a
unless (Some r) a b = b

abbrev pub or_refused : Option Refusal → Told → Told
or_refused None t = t
or_refused (Some r) t = refused r

-- one step: a refused deed changes nothing
unfoldable pub step : Dims → Limits → House → Deed → House
step ss lim h d = unless (refusal ss lim h d) (after ss h d) h

unfoldable pub told : Dims → Limits → House → Deed → Told
told ss lim h d = or_refused (refusal ss lim h d) (answered ss h d)

-- the warehouse after a list of deeds
unfoldable pub end : Dims → Limits → House → List Deed → House
end ss lim h [] = h
end ss lim h (d ∷ ds) = end ss lim (step ss lim h d) ds
