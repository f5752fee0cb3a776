use Rattle.std.proofs.Common.{◌≡◌, ◌-◌, length, arith, length-take}
use Rattle.summary.proofs.Rolls.{headed}
use Rattle.summary.proofs.shape.Shape.begin.Goals as goal

pub returns : goal.returns
returns c =
    let w = c.args.self.width in
    let xs = c.args.row.now in
    let ys = c.copy_from_slice.new.self in
    let e : w - 0 ≡ w = omega arith in
    let long : length ys ≡ w = omega (arith, c.copy_from_slice.ensures.len, length-take (w - 0) xs) in
    let p = c.copy_from_slice.ensures.after in
    let h = headed w xs ys c.requires long in
    cc
