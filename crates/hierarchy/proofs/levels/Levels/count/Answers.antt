use Rattle.hierarchy.specs.Views.{dims_of}
use Rattle.hierarchy.proofs.Counting.{total_by_four, few_levels}
use Rattle.hierarchy.proofs.Widths.{dims_few}
use Rattle.hierarchy.proofs.levels.Levels.count.Goals as goal

pub returns : goal.returns
returns c =
    let a = c.levels_in.ensures in
    let b = c.levels_in-2.ensures in
    let d = c.levels_in-3.ensures in
    let e = c.levels_in-4.ensures in
    let few = few_levels c.levels_in.result c.levels_in-2.result c.levels_in-3.result c.levels_in-4.result a.1.0 a.1.1 b.1.0 b.1.1 d.1.0 d.1.1 e.1.0 e.1.1 in
    let total = total_by_four (dims_of c.args.dims.now) (dims_few c.args.dims.now) in
    (rw (a.0, b.0, d.0, e.0) total, few)
