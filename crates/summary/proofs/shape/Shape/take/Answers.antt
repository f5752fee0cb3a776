use Rattle.std.proofs.Common.{◌≡◌, true, get_or, take, sym, refl, arith}
use Rattle.totals.specs.Tables.{take_out}
use Rattle.summary.specs.Memory.{table_in, none, holding}
use Rattle.summary.proofs.Spots.{take_out_stands_last, take_out_stands_less, held_stands, held_would}
use Rattle.summary.proofs.Groups.{below_count, count_is, lessened}
use Rattle.summary.proofs.Soundness.{sound_take_kept}
use Rattle.summary.proofs.shape.Shape.take.Goals as goal

pub group-old-requires : goal.group-old-requires
group-old-requires c = (c.requires.whole, below_count c.args.self.width c.in-Ok.i c.args.row.now c.in-Ok.ensures.0)

pub remove-requires : goal.remove-requires
remove-requires c = (c.requires.whole, below_count c.args.self.width c.in-Ok.i c.args.row.now c.in-Ok.ensures.0)

pub replace-requires : goal.replace-requires
replace-requires c = (c.requires.whole, below_count c.args.self.width c.in-Ok.i c.args.row.now c.in-Ok.ensures.0)

pub returns-then-old-le1 : goal.returns-then-old-le1
returns-then-old-le1 c =
    let w = c.args.self.width in
    let xs = c.args.row.now in
    let t = table_in w xs in
    let i = c.in-Ok.i in
    let p = take w c.args.place in
    let stands = c.in-Ok.ensures in
    let e = count_is w c.group-old.result (get_or t i none) c.group-old.ensures.cell in
    let is = take_out_stands_last p c.args.amount t i c.requires.ordered stands (omega arith) in
    let there = held_stands p t i stands in
    let gone = c.remove.ensures in
    let after : c.remove.new.row ≡ holding w (take_out p c.args.amount t) xs = cc in
    record { told = sym there; after = after; sound = sound_take_kept w p c.args.amount xs _ true c.requires after }

pub returns-else-old-le1 : goal.returns-else-old-le1
returns-else-old-le1 c =
    let w = c.args.self.width in
    let xs = c.args.row.now in
    let t = table_in w xs in
    let i = c.in-Ok.i in
    let p = take w c.args.place in
    let stands = c.in-Ok.ensures in
    let e = count_is w c.group-old.result (get_or t i none) c.group-old.ensures.cell in
    let new = lessened w c.group-old.result (get_or t i none) c.group-old.ensures.cell c.without.result c.args.amount c.without.ensures in
    let is = take_out_stands_less p c.args.amount t i c.requires.ordered stands (omega arith) in
    let there = held_stands p t i stands in
    let lesser = c.replace.ensures in
    let after : c.replace.new.row ≡ holding w (take_out p c.args.amount t) xs = cc in
    record { told = sym there; after = after; sound = sound_take_kept w p c.args.amount xs _ true c.requires after }

pub returns-in_default : goal.returns-in_default
returns-in_default c =
    let w = c.args.self.width in
    let t = table_in w c.args.row.now in
    let none-there = held_would (take w c.args.place) t c.in_default.field-0 c.in_default.ensures in
    record { told = sym none-there; after = refl; sound = c.requires }
