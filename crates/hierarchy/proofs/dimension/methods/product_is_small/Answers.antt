-- A factor 0 or too large a product so far makes the whole product 0 or too large.
use Rattle.std.proofs.Common.{◌+◌, sym, inl, inr, arith}
use Rattle.std.proofs.lemmas.List.{take_all}
use Rattle.hierarchy.specs.Dimensions.{product}
use Rattle.hierarchy.proofs.Products.{product_more, bad_factor, bad_front, is_small, mul_positive}
use Rattle.hierarchy.proofs.dimension.methods.product_is_small.Goals as goal
use Rattle.hierarchy.proofs.dimension.methods.product_is_small.Goals.{then-f-eq0-via-then-f-eq0, then-f-eq0-via-else-f-eq0+then-f-ge-LIMIT}

pub loop-f-init : goal.loop-f-init
unfolding product
loop-f-init c = omega arith

pub returns-then-f-eq0 : goal.returns-then-f-eq0
returns-then-f-eq0 c =
    sym (bad_factor c.args.factors.now c.loop-f.f-index c.loop-f-test.true
    (elim c.then-f-eq0.branch [ then-f-eq0-via-then-f-eq0 w ↦ inl w.if-f-eq0.true | then-f-eq0-via-else-f-eq0+then-f-ge-LIMIT w ↦ inr w.if-f-ge-LIMIT.true ]))

pub returns-then-product-ge-LIMIT : goal.returns-then-product-ge-LIMIT
returns-then-product-ge-LIMIT c =
    let more = product_more c.args.factors.now 0 c.loop-f.f-index (omega arith) c.loop-f-test.true in
    sym (bad_front c.args.factors.now (c.loop-f.f-index + 1)
    (rw (more, ← c.loop-f.invariant.0) c.if-product-ge-LIMIT.true))

pub loop-f-preserved : goal.loop-f-preserved
loop-f-preserved c =
    let more = product_more c.args.factors.now 0 c.loop-f.f-index (omega arith) c.loop-f-test.true in
    (rw (more, ← c.loop-f.invariant.0), mul_positive _ _ c.loop-f.invariant.1 (omega arith), c.if-product-ge-LIMIT.false)

pub returns : goal.returns
returns c =
    let whole = take_all c.loop-f.f-index c.args.factors.now c.loop-f-test.false in
    let e = c.loop-f.invariant.0 in
    sym (is_small c.args.factors.now (rw (← whole, ← e) c.loop-f.invariant.1) (rw (← whole, ← e) c.loop-f.invariant.2))
