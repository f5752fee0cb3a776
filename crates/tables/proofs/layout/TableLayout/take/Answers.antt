use Rattle.std.proofs.Common.{◌≡◌, length, arith, rules}
use Rattle.std.proofs.lemmas.List.{length-take-le}
use Rattle.hierarchy.specs.Views.{entry_of}
use Rattle.hierarchy.proofs.Widths.{dims_few}
use Rattle.tables.specs.Memory.{sides, wide}
use Rattle.tables.proofs.Deeds.{take_done}
use Rattle.tables.proofs.layout.TableLayout.take.Goals as goal

pub returns : goal.returns
returns c =
    let l = c.args.self.now in
    let four : length c.args.fact.place ≡ 4 = search rules in
    let r = take_done (sides l) l.shape.width l.shaped (dims_few l.dims) (entry_of (wide l) c.args.fact) c.args.part.now c.requires (length-take-le (wide l) c.args.fact.place (omega (arith, dims_few l.dims)))
    c.place_in-place.result c.place_in-place.ensures c.take.new.row c.take.result c.take.ensures.told c.take.ensures.after c.take.ensures.sound in
    record { table = r.0; sound = r.1 }
