use Rattle.std.proofs.Common.{◌≡◌, ◌+◌, ◌-◌, ◌*◌, length, get_or, set, refl, ap, ◌∙◌, arith, rules}
use borrow.Rule.Slice.PartMut.{put_mid}
use Rattle.std.proofs.lemmas.List.{length-take-le}
use Rattle.hierarchy.proofs.Widths.{dims_few}
use Rattle.hierarchy.specs.Views.{levels_of}
use Rattle.summary.specs.Memory as summary
use Rattle.totals.specs.Tables.{rolled}
use Rattle.model.specs.House.{Kept, answer}
use Rattle.tables.specs.Memory.{sides, wide, part_size, part, kept_in}
use Rattle.tables.specs.Ready.{kept_tables}
use Rattle.tables.proofs.Places.{within}
use Rattle.tables.proofs.Moves.{table_fits, rolled_kept, pushed}
use Rattle.tables.proofs.layout.TableLayout.add.Goals as goal

pub roll-requires-clause-room : goal.roll-requires-clause-room
roll-requires-clause-room c =
    rw c.requires.row (table_fits c.args.self.now c.args.tables.now c.source-from.result c.requires.ready c.source-from.ensures.0)

pub slice_bounds-copy_from_slice-end : goal.slice_bounds-copy_from_slice-end
slice_bounds-copy_from_slice-end c =
    let s = part_size c.args.self.now in
    let p = c.at-at.ensures.0 in
    let q = c.part_length.ensures.0 in
    let long = c.requires.ready.long in
    rw (p, c.kept-kept.ensures, q, long) (within s (get_or c.args.tables.now 0 0) c.requires.room)

pub returns : goal.returns
returns c =
    let l = c.args.self.now in
    let w = wide l in
    let s = part_size l in
    let ss = sides l in
    let xs = c.args.tables.now in
    let n = get_or xs 0 0 in
    let row = c.copy_from_slice.new.self in
    let ls = levels_of w c.args.levels in
    let ks = kept_tables l xs in
    let i = c.source-from.result in
    let there = c.source-from.ensures.0 in
    let copied = c.copy_from_slice.ensures.after in
    let same-long : length c.roll.new.to ≡ length c.args.row.now = c.roll.auto.to in
    let exact : length row ≡ s = ap length copied ∙ (same-long ∙ c.requires.row) in
    let p = c.at-at.ensures.0 in
    let q = c.part_length.ensures.0 in
    let size : (c.at-at.result + c.part_length.result) - c.at-at.result ≡ s = omega (arith, q) in
    let e : set (put_mid c.at-at.result ((c.at-at.result + c.part_length.result) - c.at-at.result) xs row) 0 (c.kept-kept.result + 1)
    ≡ set (put_mid (1 + s * n) s xs row) 0 (n + 1) = rw (size, p, c.kept-kept.ensures) in
    let row-sound : summary.Sound w row = rw copied c.roll.ensures.sound in
    let four : length c.args.levels.at ≡ 4 = search rules in
    let long : length ls ≡ w = length-take-le w c.args.levels.at (omega (arith, four, dims_few l.dims)) in
    let made = rolled_kept w ss ls (part s i xs) c.args.row.now row refl long (c.requires.ready.sound i there) (copied ∙ c.roll.ensures.after) in
    let answered : kept_in w row ≡ record { levels = ls; cells = answer ss ls ks } =
    made ∙ ap (λ (k : Kept). record { levels = ls; cells = rolled ss k.levels ls k.cells }) c.source-from.ensures.1 in
    pushed l xs row c.requires.ready.long c.requires.room exact _ (record { levels = ls; cells = answer ss ls ks }) e c.requires.ready.sound row-sound answered
