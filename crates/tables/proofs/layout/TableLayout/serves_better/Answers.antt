use Rattle.std.proofs.Common.{◌≡◌, true, false, take, sym, ◌∙◌, arith}
use Rattle.std.proofs.lemmas.Bool.{and_left}
use Rattle.hierarchy.specs.Levels.{no_coarser}
use Rattle.hierarchy.specs.Views.{levels_of}
use Rattle.tables.specs.Memory.{sides, wide, part_size, part}
use Rattle.tables.proofs.Scans.{levels_are}
use Rattle.tables.proofs.layout.TableLayout.serves_better.Goals as goal

pub returns-then-no_coarser : goal.returns-then-no_coarser
returns-then-no_coarser c =
    let l = c.args.self.now in
    let e = c.part.ensures.0 in
    let m = levels_are l c.levels_in-at.result c.part.result.now c.levels_in-at.ensures (omega (arith, c.part.ensures.1)) in
    let h = c.no_coarser.ensures in
    let v = c.if-no_coarser.true in
    let g = c.groups_at.ensures in
    let k = c.groups_at-then-no_coarser.ensures in
    let t : no_coarser (sides l) (take (wide l) (part (part_size l) c.args.i c.args.tables.now)) (levels_of (wide l) c.args.levels) ≡ true = cc in
    rw t cc

pub returns-else-no_coarser : goal.returns-else-no_coarser
returns-else-no_coarser c =
    let l = c.args.self.now in
    let e = c.part.ensures.0 in
    let m = levels_are l c.levels_in-at.result c.part.result.now c.levels_in-at.ensures (omega (arith, c.part.ensures.1)) in
    let h = c.no_coarser.ensures in
    let v = c.if-no_coarser.false in
    let t : no_coarser (sides l) (take (wide l) (part (part_size l) c.args.i c.args.tables.now)) (levels_of (wide l) c.args.levels) ≡ false = cc in
    v ∙ sym (and_left _ _ t)
