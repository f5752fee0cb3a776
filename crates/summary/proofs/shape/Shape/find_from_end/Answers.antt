use Rattle.std.proofs.Common.{◌-◌, ◌<◌, length, take, arith}
use Rattle.summary.specs.Memory.{table_in}
use Rattle.summary.proofs.Rows.{table_length}
use Rattle.summary.proofs.Spots.{all_before}
use Rattle.summary.proofs.shape.Shape.find_from_end.Goals as goal

pub returns-then-n-eq0 : goal.returns-then-n-eq0
returns-then-n-eq0 c =
    let n = table_length c.args.self.width c.args.row.now in
    (omega arith, λ j l. absurd (omega arith), λ j l k. absurd (omega arith))

pub returns-in-Less : goal.returns-in-Less
returns-in-Less c =
    let n = table_length c.args.self.width c.args.row.now in
    let t = table_in c.args.self.width c.args.row.now in
    let m = c.count-n.result - 1 in
    let l : m < length t = omega arith in
    let all = all_before t m (take c.args.self.width c.args.place) c.requires.ordered l c.in-Less.ensures in
    (omega arith, λ j k. all j (omega arith), λ j k h. absurd (omega arith))

pub returns-in-Equal : goal.returns-in-Equal
returns-in-Equal c =
    let n = table_length c.args.self.width c.args.row.now in
    (omega arith, c.in-Equal.ensures)
