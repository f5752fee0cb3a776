-- What tables of totals promise. Each is a statement; a function's contract asks for its proof. Assumes nothing.
use Rattle.std.specs.Prelude.{◌≡◌, ℕ, ◌<◌, ◌≤◌, true, List, length, slice_index_or}
use Rattle.hierarchy.specs.Dimensions.{Dims, Row}
use Rattle.hierarchy.specs.Levels.{no_coarser}
use Rattle.hierarchy.specs.Facts.{Entry, copies, without}
use Rattle.hierarchy.specs.Places.{place_at}
use Rattle.totals.specs.Tables.{Cell, Table, one, before, put, take_out, table, rolled}
use Rattle.totals.specs.Counts.{at, belonging, total, all_facts}

-- a coarser table made of a finer one is the table of the facts
abbrev pub RolledRight : Type 0
RolledRight =
    (ss : Dims) (ls ms : Row) (es : List Entry) → no_coarser ss ls ms ≡ true → rolled ss ls ms (table ss ls es) ≡ table ss ms es

-- by way of a third is the same, for any table
abbrev pub RolledTwice : Type 0
RolledTwice =
    (ss : Dims) (ls ms ks : Row) (t : Table) → no_coarser ss ls ms ≡ true → no_coarser ss ms ks ≡ true
    → rolled ss ms ks (rolled ss ls ms t) ≡ rolled ss ls ks t

-- the order in which facts came does not matter
abbrev pub AnyOrder : Type 0
AnyOrder = (ss : Dims) (ls : Row) (ds es : List Entry) → ((e : Entry) → copies e ds ≡ copies e es) → table ss ls ds ≡ table ss ls es

-- groups stand in order, each place once
abbrev pub InOrder : Table → Type 0
InOrder t = (i j : ℕ) (g : Cell) → i < j → j < length t → before (slice_index_or t i g).place (slice_index_or t j g).place ≡ true

-- no group is empty
abbrev pub NoneEmpty : Table → Type 0
NoneEmpty t = (i : ℕ) (g : Cell) → i < length t → 0 < (slice_index_or t i g).measure.count

-- and to the line: for every place, the table has there what belongs to it
abbrev pub AddsUp : Type 0
AddsUp =
    (ss : Dims) (ls : Row) (es : List Entry)
    → InOrder (table ss ls es) × NoneEmpty (table ss ls es) × (total (table ss ls es) ≡ all_facts es)
    × ((p : Row) → at p (table ss ls es) ≡ belonging ss ls p es)

-- coarser levels have no more groups, and rolling up never makes more
abbrev pub CoarserSmaller : Type 0
CoarserSmaller =
    ((ss : Dims) (ls ms : Row) (es : List Entry) → no_coarser ss ls ms ≡ true → length (table ss ms es) ≤ length (table ss ls es))
    × ((ss : Dims) (ls ms : Row) (t : Table) → length (rolled ss ls ms t) ≤ length t)

-- taking out what was put in gives the table back; and a fact that is there goes from the table as from the facts
abbrev pub TakenBack : Type 0
TakenBack =
    ((p : Row) (a : ℕ) (t : Table) → NoneEmpty t → take_out p a (put p (one a) t) ≡ t)
    × ((ss : Dims) (ls : Row) (e : Entry) (es : List Entry) → 0 < copies e es
    → take_out (place_at ss ls e.place) e.amount (table ss ls es) ≡ table ss ls (without e es))
