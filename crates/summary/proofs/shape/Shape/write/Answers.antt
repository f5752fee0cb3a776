use Rattle.std.proofs.Common.{◌≡◌, ◌-◌, length, take, arith, length-take, rules}
use Rattle.summary.proofs.Rows.{part_written}
use Rattle.summary.proofs.shape.Shape.write.Goals as goal

pub returns : goal.returns
returns c =
    let w = c.args.self.width in
    let xs = c.args.row.now in
    let e : w - 0 ≡ w = omega arith in
    let p : c.copy_from_slice.new.self ≡ take w c.args.group.place = rw e at c.copy_from_slice.ensures.after in
    let four : length c.args.group.place ≡ 4 = search rules in
    let long : length (take w c.args.group.place) ≡ w = omega (arith, length-take w c.args.group.place) in
    rw (c.start-at.ensures, p)
    (part_written w _ _ _ xs (take w c.args.group.place) c.args.group.count c.args.group.sum (omega (arith, c.stride.ensures)) e long c.requires)
