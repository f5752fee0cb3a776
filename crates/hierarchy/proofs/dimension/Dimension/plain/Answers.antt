use Rattle.std.proofs.Common.{rules}
use Rattle.hierarchy.specs.Dimensions.{product}
use Rattle.hierarchy.proofs.dimension.Dimension.plain.Goals as goal

pub invariant_of-result : goal.invariant_of-result
unfolding product
invariant_of-result c = search rules
