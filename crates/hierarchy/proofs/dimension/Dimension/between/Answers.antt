-- The product of a part of the factors is at most that of all, which is below 2^32.
use Rattle.std.proofs.Common.{◌≡◌, ◌<◌, ◌^◌, drop, take, ◌∙◌, rules, arith}
use Rattle.hierarchy.specs.Views.{factors_of}
use Rattle.hierarchy.proofs.Products.{product_fits, product_of, same_factors, part_small}
use Rattle.std.proofs.lemmas.Iterator.{YieldsList-from_slice}
use Rattle.hierarchy.proofs.dimension.Dimension.between.Goals as goal

pub product-product-requires-clause-fits : goal.product-product-requires-clause-fits
product-product-requires-clause-fits c =
    let small = part_small c.args.self c.args.from c.args.to in
    let rest : c.iter.result.rest.now ≡ drop c.args.from (take c.args.to (factors_of c.args.self)) =
    c.iter.ensures.rest ∙ rw c.min.ensures (same_factors c.args.self c.args.from c.args.to c.requires) in
    product_fits (YieldsList-from_slice (drop c.args.from (take c.args.to (factors_of c.args.self))) rest) (2 ^ 64) small.0 (omega (arith, small.1))

pub unwrap-requires : goal.unwrap-requires
unwrap-requires c =
    let rest : c.iter.result.rest.now ≡ drop c.args.from (take c.args.to (factors_of c.args.self)) =
    c.iter.ensures.rest ∙ rw c.min.ensures (same_factors c.args.self c.args.from c.args.to c.requires) in
    let is = product_of (YieldsList-from_slice (drop c.args.from (take c.args.to (factors_of c.args.self))) rest) _ c.product-product.ensures.ran in
    let some : 0 < c.product-product.result = rw is (part_small c.args.self c.args.from c.args.to).0 in
    search rules

pub returns : goal.returns
returns c =
    let rest : c.iter.result.rest.now ≡ drop c.args.from (take c.args.to (factors_of c.args.self)) =
    c.iter.ensures.rest ∙ rw c.min.ensures (same_factors c.args.self c.args.from c.args.to c.requires) in
    let value = rw c.unwrap.ensures at c.new.ensures in
    value ∙ product_of (YieldsList-from_slice (drop c.args.from (take c.args.to (factors_of c.args.self))) rest) _ c.product-product.ensures.ran
