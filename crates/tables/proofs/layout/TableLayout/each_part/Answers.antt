use denote.Param.Members.{once}
use Rattle.std.proofs.Common.{◌≡◌, ◌+◌, ◌-◌, ◌*◌, ◌<◌, ◌≤◌, length, refl, ◌∙◌, arith}
use Rattle.std.specs.Fn.{FnOnceReturnsAtMut}
use Rattle.tables.specs.Memory.{part_size}
use Rattle.tables.proofs.Places.{within, part_long, each_turn}
use Rattle.tables.proofs.layout.TableLayout.each_part.Goals as goal

pub loop-t-preserved : goal.loop-t-preserved
loop-t-preserved g c =
    let s = part_size c.args.self.now in
    let t : c.loop-t.t < 16 = omega (arith, c.loop-t-test.true, c.kept-kept.ensures, c.requires.few) in
    let k : (c.at-at.result + c.part_length-length.result) - c.at-at.result ≡ s = omega (arith, c.part_length-length.ensures.0) in
    let long : 1 + s * c.loop-t.t + s ≤ length c.loop-t.tables = omega (arith, c.requires.long, within s c.loop-t.t t, c.loop-t.auto.tables) in
    let exact : length c.change.new.arg2 ≡ s = rw (k, c.at-at.ensures.0) at c.change.auto.arg2 ∙ part_long s c.loop-t.t c.loop-t.tables long in
    each_turn s (λ xs ys. FnOnceReturnsAtMut (once g.F.Fn) c.args.change xs tt ys) c.loop-t.t c.args.tables.now
    c.loop-t.tables c.change.new.arg2 c.at-at.result ((c.at-at.result + c.part_length-length.result) - c.at-at.result) c.at-at.ensures.0 k long exact
    c.loop-t.invariant (record { shown = _; shows = refl; left = _; met = c.change.ensures; leaves = refl })
