use Rattle.std.proofs.Common.{arith}
use Rattle.hierarchy.specs.Views.{dims_of}
use Rattle.hierarchy.proofs.Counting.{nth_by_four, some_levels}
use Rattle.hierarchy.proofs.Widths.{dims_some, dims_few}
use Rattle.hierarchy.proofs.levels.Levels.nth.Goals as goal

pub nonzero_rem-rest : goal.nonzero_rem-rest
nonzero_rem-rest c = (some_levels c.levels_in-second.result c.levels_in-third.result c.levels_in-fourth.result c.levels_in-second.ensures.1.0 c.levels_in-third.ensures.1.0 c.levels_in-fourth.ensures.1.0).0

pub nonzero_div-at : goal.nonzero_div-at
nonzero_div-at c = (some_levels c.levels_in-second.result c.levels_in-third.result c.levels_in-fourth.result c.levels_in-second.ensures.1.0 c.levels_in-third.ensures.1.0 c.levels_in-fourth.ensures.1.0).0

pub nonzero_div-at-2 : goal.nonzero_div-at-2
nonzero_div-at-2 c = (some_levels c.levels_in-second.result c.levels_in-third.result c.levels_in-fourth.result c.levels_in-second.ensures.1.0 c.levels_in-third.ensures.1.0 c.levels_in-fourth.ensures.1.0).1

pub nonzero_rem-at : goal.nonzero_rem-at
nonzero_rem-at c = (some_levels c.levels_in-second.result c.levels_in-third.result c.levels_in-fourth.result c.levels_in-second.ensures.1.0 c.levels_in-third.ensures.1.0 c.levels_in-fourth.ensures.1.0).1

pub nonzero_rem-at-2 : goal.nonzero_rem-at-2
nonzero_rem-at-2 c = (some_levels c.levels_in-second.result c.levels_in-third.result c.levels_in-fourth.result c.levels_in-second.ensures.1.0 c.levels_in-third.ensures.1.0 c.levels_in-fourth.ensures.1.0).1

pub returns : goal.returns
returns c =
    let nth = nth_by_four (dims_of c.args.dims.now) c.args.index (dims_some c.args.dims.now) (dims_few c.args.dims.now) in (
      omega (arith, c.if-index-count.false, c.count.ensures),
      rw (c.levels_in-second.ensures.0, c.levels_in-third.ensures.0, c.levels_in-fourth.ensures.0) nth,
    )
