use Rattle.std.proofs.Common.{take, ◌∙◌, rules}
use borrow.Author.Tests.{tests}
use Rattle.std.proofs.lemmas.Iterator.{YieldsList-from_slice, YieldsList-from_take}
use Rattle.std.proofs.lemmas.Iterator.Adapters.{position_from-zero}
use Rattle.std.proofs.lemmas.Iterator.Search.{position_from_yields_List}
use Rattle.hierarchy.proofs.Scans.{large, wrong_is}
use Rattle.hierarchy.proofs.fact.methods.wrong_number.Goals as goal

pub returns : goal.returns
returns c =
    let first =
    position_from_yields_List large _ _ c.position-large.result c.position-large.ensures.ran
    (YieldsList-from_take c.args.count (YieldsList-from_slice c.args.row.now cc) cc) (λ x b q k. search (rules, tests))
    ∙ position_from-zero large (take c.args.count c.args.row.now) in
    rw (c.or.ensures, first, c.then_some.ensures, c.min.ensures) (wrong_is c.args.count c.args.row.now)
