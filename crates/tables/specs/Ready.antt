-- The kept tables in memory, as deeds on them find them and leave them. Assumes nothing: these are definitions.
use Rattle.std.specs.Prelude.{◌≡◌, ℕ, ◌+◌, ◌*◌, ◌^◌, ◌<◌, ◌≤◌, List, length, slice_index}
use Rattle.totals.specs.Counts.{total}
use Rattle.summary.specs.Memory as summary
use Rattle.model.specs.House.{Kept}
use Rattle.tables.specs.Memory.{wide, part_size, part, kept_in, tables_in}
use Rattle.tables.specs.declared.layout.TableLayout.{TableLayout}

abbrev pub kept_tables : TableLayout → List ℕ → List Kept
kept_tables l tables = tables_in (wide l) (part_size l) tables

-- the i-th of them
abbrev pub kept_table : TableLayout → ℕ → List ℕ → Kept
kept_table l i tables = kept_in (wide l) (part (part_size l) i tables)

-- tables as a deed finds them: there is one, each is sound, and numbers hold its count of facts and their sum
pub record Ready (l : TableLayout) (tables : List ℕ) : Type 0 where
  pub long : length tables ≡ 1 + part_size l * 16
  pub some : 0 < slice_index tables 0
  pub few : slice_index tables 0 ≤ 16
  pub sound : (i : ℕ) → i < slice_index tables 0 → summary.Sound (wide l) (part (part_size l) i tables)
  pub fits : (i : ℕ) → i < slice_index tables 0
      → ((total (kept_table l i tables).cells).count < 2 ^ 64) × ((total (kept_table l i tables).cells).sum < 2 ^ 64)

-- tables as a deed leaves them: these, and each is sound
pub record Left (l : TableLayout) (ks : List Kept) (tables : List ℕ) : Type 0 where
  pub are : kept_tables l tables ≡ ks
  pub sound : (i : ℕ) → i < slice_index tables 0 → summary.Sound (wide l) (part (part_size l) i tables)
