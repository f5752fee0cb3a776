-- How the kept tables of a warehouse lie in memory: how many there are, and then parts, each with the room of one whole table.
-- Assumes nothing: these are definitions.
use Rattle.std.specs.Prelude.{◌≡◌, ℕ, ◌+◌, ◌*◌, ◌^◌, ◌<◌, ◌≤◌, List, length, take, drop, slice_index}
use Rattle.hierarchy.specs.Dimensions.{Dims}
use Rattle.hierarchy.specs.Facts.{Entry}
use Rattle.hierarchy.specs.Parts.{parts}
use Rattle.hierarchy.specs.Views.{dims_of}
use Rattle.summary.specs.Memory.{start, table_in}
use Rattle.summary.specs.Memory as summary
use Rattle.totals.specs.Counts.{total}
use Rattle.model.specs.House.{Kept, with_fact, without_fact}
use Rattle.tables.specs.declared.layout.TableLayout.{TableLayout}

-- what a layout is for: dimensions, and how many numbers a part takes
abbrev pub sides : TableLayout → Dims
sides l = dims_of l.dims

abbrev pub wide : TableLayout → ℕ
wide l = length (sides l)

abbrev pub part_size : TableLayout → ℕ
part_size l = start (wide l) l.groups

-- the i-th part of s numbers, behind the number of kept tables
abbrev pub part : ℕ → ℕ → List ℕ → List ℕ
part s i xs = take s (drop (1 + s * i) xs)

-- a kept table in its part
abbrev pub kept_in : ℕ → List ℕ → Kept
kept_in w xs = record { levels = take w xs; cells = table_in w xs }

-- the tables that are kept
abbrev pub tables_in : ℕ → ℕ → List ℕ → List Kept
tables_in w s xs = parts (kept_in w) s (slice_index xs 0) (drop 1 xs)

-- a part that can take one fact more: a table, with room, and its numbers hold what there is then
pub record PutReady (l : TableLayout) (e : Entry) (xs : List ℕ) : Type 0 where
  pub sound : summary.Sound (wide l) xs
  pub long : length e.place ≡ wide l
  pub room : start (wide l) (length (with_fact (sides l) e (kept_in (wide l) xs)).cells) ≤ length xs
  pub fits : ((total (table_in (wide l) xs)).count + 1 < 2 ^ 64) × ((total (table_in (wide l) xs)).sum + e.amount < 2 ^ 64)

-- and the part then
pub record WithFact (l : TableLayout) (e : Entry) (xs ys : List ℕ) : Type 0 where
  pub table : kept_in (wide l) ys ≡ with_fact (sides l) e (kept_in (wide l) xs)
  pub sound : summary.Sound (wide l) ys

pub record WithoutFact (l : TableLayout) (e : Entry) (xs ys : List ℕ) : Type 0 where
  pub table : kept_in (wide l) ys ≡ without_fact (sides l) e (kept_in (wide l) xs)
  pub sound : summary.Sound (wide l) ys

-- the parts below t have become what R says of them, and the others are as they were
pub record Each (s : ℕ) (R : List ℕ → List ℕ → Type 0) (t : ℕ) (xs ys : List ℕ) : Type 0 where
  pub head : slice_index ys 0 ≡ slice_index xs 0
  pub made : (j : ℕ) → j < t → R (part s j xs) (part s j ys)
  pub rest : (j : ℕ) → t ≤ j → part s j ys ≡ part s j xs
