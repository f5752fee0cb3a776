use Rattle.std.proofs.Common.{◌+◌, ◌-◌, ◌/◌, ◌<◌, ◌≤◌, length, take, arith, rules}
use Rattle.summary.specs.Memory.{table_in}
use Rattle.summary.proofs.Rows.{table_length}
use Rattle.summary.proofs.Spots.{all_before, all_behind}
use Rattle.summary.proofs.shape.Shape.find.Goals as goal

pub loop-low-init : goal.loop-low-init
loop-low-init c =
    let n = table_length c.args.self.width c.args.row.now in
    (omega arith, omega (arith, c.count-high.ensures), λ j h. absurd (omega arith), λ j h k. absurd (omega (arith, c.count-high.ensures)))

pub compare_at-requires : goal.compare_at-requires
compare_at-requires c =
    let n = table_length c.args.self.width c.args.row.now in (c.requires.whole, omega arith)

pub loop-low-preserved-in-Less : goal.loop-low-preserved-in-Less
loop-low-preserved-in-Less c =
    let t = table_in c.args.self.width c.args.row.now in
    let m = c.loop-low.low + (c.loop-low.high - c.loop-low.low) / 2 in
    let l : m < length t = omega arith in (
      omega arith,
      c.loop-low.invariant.1,
      all_before t m (take c.args.self.width c.args.place) c.requires.ordered l c.in-Less.ensures,
      c.loop-low.invariant.3,
    )

pub loop-low-preserved : goal.loop-low-preserved
loop-low-preserved c =
    let t = table_in c.args.self.width c.args.row.now in
    let m = c.loop-low.low + (c.loop-low.high - c.loop-low.low) / 2 in
    let l : m < length t = omega arith in (
      omega arith,
      omega arith,
      c.loop-low.invariant.2,
      all_behind t m (take c.args.self.width c.args.place) c.requires.ordered c.in-Greater.ensures,
    )

pub returns : goal.returns
returns c =
    let e : c.loop-low.high ≤ c.loop-low.low = omega arith in
    (omega arith, c.loop-low.invariant.2, λ j h k. c.loop-low.invariant.3 j (omega arith) k)

pub overflow_add-middle : goal.overflow_add-middle
overflow_add-middle c =
    let n = table_length c.args.self.width c.args.row.now in
    let f = c.type_inv.row c.args.self.width in
    search rules

pub overflow_add-low : goal.overflow_add-low
overflow_add-low c =
    let n = table_length c.args.self.width c.args.row.now in
    let f = c.type_inv.row c.args.self.width in
    search rules
