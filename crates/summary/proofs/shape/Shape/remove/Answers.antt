use Rattle.std.proofs.Common.{◌≡◌, arith}
use Rattle.summary.specs.Memory.{count_in, start}
use Rattle.summary.proofs.Rows.{group_end, row_removed}
use Rattle.summary.proofs.shape.Shape.remove.Goals as goal

pub copy_within-requires : goal.copy_within-requires
copy_within-requires c =
    let w = c.args.self.width in
    let n = count_in w c.args.row.now in
    let e = c.count-n.ensures in
    let last = c.start-end.ensures in
    let end : c.start-end.result ≡ start w n = cc in
    let h = group_end w n c.args.i (start w n) (omega arith) c.requires.1 in
    record { start_le_end = omega (arith, h); in_bounds = omega arith; dest_in_bounds = omega (arith, h); not_exhausted = tt }

pub returns : goal.returns
returns c =
    let w = c.args.self.width in
    let e = c.count-n.ensures in
    let a = c.start-at.ensures in
    let b = c.start-end.ensures in
    let s = c.stride.ensures in
    let p = c.copy_within.ensures.after in
    cc (row_removed w c.args.i c.args.row.now c.requires.0 c.requires.1)
