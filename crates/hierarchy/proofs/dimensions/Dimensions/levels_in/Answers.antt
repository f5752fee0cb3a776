use Rattle.std.proofs.Common.{◌≡◌, ◌+◌, ◌<◌, ◌≤◌, ℕ, length, get_or, sym, ◌∙◌, arith}
use Rattle.hierarchy.specs.Levels.{levels_in_dimension}
use Rattle.hierarchy.specs.Views.{factors_of, dims_of}
use Rattle.hierarchy.specs.declared.dimension.Dimension.{Dimension}
use Rattle.hierarchy.specs.declared.dimensions.Dimensions.{Dimensions}
use Rattle.hierarchy.proofs.Counting.{levels_there, levels_past}
use Rattle.hierarchy.proofs.Widths.{dims_at, dims_length, few_factors}
use Rattle.hierarchy.proofs.dimensions.Dimensions.levels_in.Goals as goal

-- by what the struct at i answers
levels_by : (dims : Dimensions) (i n : ℕ) (z : Dimension) → i < dims.width → n ≡ length (factors_of (get_or dims.each i z)) + 2
    → (n ≡ levels_in_dimension (dims_of dims) i) × ((1 ≤ n) × (n ≤ 6))
levels_by dims i n z h is =
    let at = dims_at dims i z h in
    let there = levels_there (dims_of dims) i (omega (arith, dims_length dims)) in
    let few = few_factors (get_or dims.each i z) in
    (is ∙ sym (rw at at there), (omega (arith, is), omega (arith, is, few)))

pub returns-then-i-self : goal.returns-then-i-self
returns-then-i-self c = levels_by c.args.self.now c.args.i c.level_count.result _ c.if-i-self.true c.level_count.ensures

pub returns-else-i-self : goal.returns-else-i-self
returns-else-i-self c =
    (sym (levels_past (dims_of c.args.self.now) c.args.i (omega (arith, dims_length c.args.self.now))), (omega arith, omega arith))
