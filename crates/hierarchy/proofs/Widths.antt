-- There are as many dimensions as their width says, at least one and at most four. Assumes nothing.
use Rattle.std.proofs.Common.{◌≡◌, ℕ, ◌<◌, ◌≤◌, [], length, get_or, take, ap, ◌∙◌, arith}
use Rattle.std.proofs.lemmas.List.{length-take-le, length-map, get_or-map, get_or-take, length-take}
use Rattle.hierarchy.specs.Views.{factors_of, dims_of}
use Rattle.hierarchy.specs.declared.dimension.Dimension.{Dimension}
use Rattle.hierarchy.specs.declared.dimensions.Dimensions.{Dimensions}

pub dims_length : (d : Dimensions) → length (dims_of d) ≡ d.width
unfolding dims_of
dims_length d = length-map (take d.width d.each) factors_of ∙ length-take-le d.width d.each (omega (arith, d.few, d.four))

pub dims_some : (d : Dimensions) → 1 ≤ length (dims_of d)
dims_some d = omega (arith, dims_length d, d.some)

pub dims_few : (d : Dimensions) → length (dims_of d) ≤ 4
dims_few d = omega (arith, dims_length d, d.few)

-- the dimension at i by its struct
pub dims_at : (d : Dimensions) (i : ℕ) (z : Dimension) → i < d.width → get_or (dims_of d) i [] ≡ factors_of (get_or d.each i z)
unfolding dims_of
dims_at d i z h =
    get_or-map factors_of (take d.width d.each) i z [] (omega (arith, length-take-le d.width d.each (omega (arith, d.few, d.four))))
    ∙ ap factors_of (get_or-take d.width d.each i z h)

pub few_factors : (d : Dimension) → length (factors_of d) ≤ 4
few_factors d = omega (arith, length-take d.count d.factors, d.few)
