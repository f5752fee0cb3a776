-- How many groups a row has once a table was rolled up into it. Assumes nothing.
use Rattle.std.proofs.Common.{◌≡◌, ℕ, ◌^◌, ◌<◌, List, length, sym, ap, ◌∙◌, arith}
use Rattle.hierarchy.specs.Dimensions.{Dims}
use Rattle.hierarchy.specs.Facts.{Entry}
use Rattle.hierarchy.specs.Levels.{finest, total_levels, nth_levels}
use Rattle.summary.specs.Memory.{count_in, table_in, levels_in}
use Rattle.totals.specs.Cost.{size}
use Rattle.totals.specs.Tables.{table}
use Rattle.hierarchy.proofs.Laws.{no_coarser_finest}
use Rattle.totals.proofs.Put.{rolled_length}
use Rattle.summary.proofs.Rows.{table_length}
use Rattle.totals.proofs.Theory.{rolled_right}
use Rattle.greedy.specs.Turns.{SizesAre, Counted}
use Rattle.selection.specs.Rolling.{RolledSizes}
use Rattle.greedy.proofs.Listed.{nth_length}

-- ---- sizes of all levels
pub sizes_of_facts : (ss : Dims) (xs zs : List ℕ) (es : List Entry) → RolledSizes ss xs zs → levels_in (length ss) xs ≡ finest ss
    → table_in (length ss) xs ≡ table ss (finest ss) es → SizesAre ss (size ss es) zs
sizes_of_facts ss xs zs es r ls t i h =
    let coarser = no_coarser_finest ss (nth_levels ss i) (nth_length ss i h) in
    sym (r.1 i h ∙ rw (ls, t) (ap length (rolled_right ss (finest ss) (nth_levels ss i) es coarser)))

pub sizes_counted : (ss : Dims) (xs zs : List ℕ) → RolledSizes ss xs zs → count_in (length ss) xs < 2 ^ 32 → Counted (total_levels ss) zs
sizes_counted ss xs zs r small =
    (r.0, λ i h. omega (arith, r.1 i h, rolled_length ss (levels_in (length ss) xs) (nth_levels ss i) (table_in (length ss) xs), table_length (length ss) xs))
