use Rattle.std.proofs.Common.{◌≡◌, ℕ, ◌-◌, ◌<◌, length, get_or, vec_items}
use Rattle.hierarchy.specs.Levels.{nth_levels}
use Rattle.hierarchy.specs.Views.{dims_of}
use Rattle.summary.specs.Memory.{rolled_in}
use Rattle.selection.specs.Rolling.{Front}
use Rattle.selection.proofs.rolling.Finest.sizes.Given as goal

abbrev pub invariant-loop-levels : goal.invariant-loop-levels
invariant-loop-levels l =
    let ss = dims_of l.fn.self.dims.now in
    let xs = l.fn.self.row.now in
    (length (vec_items l.sizes) ≡ l.levels-index)
    × ((j : ℕ) → j < l.levels-index → get_or (vec_items l.sizes) j 0 ≡ length (rolled_in (length ss) ss (nth_levels ss j) xs))
    × (0 < l.levels-index → Front ss xs (vec_items l.front) (l.levels-index - 1))
    × (length (vec_items l.front) ≡ length xs)
    × (length (vec_items l.row) ≡ length xs)
