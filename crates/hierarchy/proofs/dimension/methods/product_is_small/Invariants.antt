use Rattle.std.proofs.Common.{◌≡◌, ◌^◌, ◌<◌, take}
use Rattle.hierarchy.specs.Dimensions.{product}
use Rattle.hierarchy.proofs.dimension.methods.product_is_small.Given as goal

abbrev pub invariant-loop-f : goal.invariant-loop-f
invariant-loop-f l = (l.product ≡ product (take l.f-index l.factors)) × (0 < l.product) × (l.product < 2 ^ 32)
