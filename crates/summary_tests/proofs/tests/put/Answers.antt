use Rattle.std.proofs.Common.{◌≤◌, length, take, arith}
use Rattle.hierarchy.specs.Views.{dims_of}
use Rattle.summary.specs.Memory.{table_in}
use Rattle.rollup.specs.Entry.{most_groups}
use Rattle.summary.proofs.Checked.{good_total}
use Rattle.summary.proofs.Rows.{table_length}
use Rattle.summary.proofs.Rolls.{at_within}
use Rattle.summary_tests.proofs.tests.put.Goals as goal

-- a checked table is sound, and has room in its numbers for one sale more
pub put-requires : goal.put-requires
put-requires c =
    let w = c.of.result.width in
    let xs = c.args.row.now in
    let k = length (dims_of c.args.dims.now) in
    let t = c.in_ok-check.ensures in
    let e = c.of.ensures in
    let few : length (table_in k xs) ≤ most_groups = omega (arith, table_length k xs, t.1, t.2) in
    let sums = good_total (table_in k xs) t.4 few in
    let within = at_within (take k c.one-group.result.place) (table_in k xs) in
    let one = c.one-group.ensures in
    record { sound = rw e t.3; fits = rw e (omega (arith, sums.0, within.0, one.1), omega (arith, sums.1, within.1, one.2)) }
