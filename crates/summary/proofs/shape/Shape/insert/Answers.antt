use Rattle.std.proofs.Common.{◌≡◌, ◌+◌, ◌≤◌, length, take, sym, mul-add, arith, length-take, rules}
use Rattle.std.proofs.lemmas.Bool.{le-leb}
use Rattle.hierarchy.proofs.Parts.{place_le}
use Rattle.summary.specs.Memory.{count_in, start, stride, cell_of}
use Rattle.summary.proofs.Rows.{row_inserted}
use Rattle.summary.proofs.shape.Shape.insert.Goals as goal

pub copy_within-requires : goal.copy_within-requires
copy_within-requires c =
    let w = c.args.self.width in
    let n = count_in w c.args.row.now in
    let e = c.count-n.ensures in
    let last = c.start-end.ensures in
    let end : c.start-end.result ≡ start w n = cc in
    let h = place_le (stride w) c.args.i n c.requires.1 in
    record { start_le_end = omega (arith, h); in_bounds = omega (arith, h); dest_in_bounds = omega (arith, h); not_exhausted = tt }

pub write-requires : goal.write-requires
write-requires c =
    let w = c.args.self.width in
    let n = count_in w c.args.row.now in
    let e = c.count-n.ensures in
    let last = c.start-end.ensures in
    let end : c.start-end.result ≡ start w n = cc in
    let h = place_le (stride w) c.args.i n c.requires.1 in
    omega (arith, h, c.copy_within.ensures.len)

pub returns : goal.returns
returns c =
    let w = c.args.self.width in
    let xs = c.args.row.now in
    let n = count_in w xs in
    let e = c.count-n.ensures in
    let a = c.start-at.ensures in
    let b = c.start-end.ensures in
    let end : c.start-end.result ≡ start w n = cc in
    let s = c.stride-stride.ensures in
    let p = c.copy_within.ensures.after in
    let q = c.write.ensures in
    let four : length c.args.group.place ≡ 4 = search rules in
    let long : length (take w c.args.group.place) ≡ w = omega (arith, length-take w c.args.group.place) in
    let room : start w n + stride w ≤ length xs = omega arith in
    let h = row_inserted w c.args.i xs (cell_of w c.args.group) room c.requires.1 long in
    record { told = sym (le-leb _ _ (omega (arith, mul-add (stride w) n 1))); after = cc }
