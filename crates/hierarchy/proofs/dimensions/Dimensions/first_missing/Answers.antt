use Rattle.std.proofs.Common.{take, ◌∙◌, rules, arith}
use borrow.Author.Tests.{tests}
use Rattle.std.specs.List.{zip}
use Rattle.std.proofs.lemmas.List.{length-take-le}
use Rattle.std.proofs.lemmas.Iterator.{YieldsList-from_slice, YieldsList-from_zip}
use Rattle.std.proofs.lemmas.Iterator.Adapters.{position_from-zero}
use Rattle.std.proofs.lemmas.Iterator.Search.{position_from_yields_List}
use Rattle.hierarchy.specs.Views.{dims_of}
use Rattle.hierarchy.proofs.Scans.{high, first_missing_is}
use Rattle.hierarchy.proofs.dimensions.Dimensions.first_missing.Goals as goal

pub returns : goal.returns
unfolding dims_of
returns c =
    let used = take c.args.self.now.width c.args.self.now.each in
    let first =
    position_from_yields_List high c.position-high.new.self c.position-high.new.predicate c.position-high.result c.position-high.ensures.ran
    (YieldsList-from_zip (YieldsList-from_slice used cc) (YieldsList-from_slice c.args.row.now cc)) (λ x b q k. search (rules, tests))
    ∙ position_from-zero high (zip used c.args.row.now) in
    rw (c.or.ensures, first, c.then_some.ensures)
    (first_missing_is c.args.self.now.width used c.args.row.now (length-take-le c.args.self.now.width c.args.self.now.each (omega (arith, c.args.self.now.few, c.args.self.now.four))))
