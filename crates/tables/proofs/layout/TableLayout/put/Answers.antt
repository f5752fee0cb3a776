use Rattle.std.proofs.Common.{arith}
use Rattle.hierarchy.specs.Views.{entry_of}
use Rattle.hierarchy.proofs.Widths.{dims_few}
use Rattle.tables.specs.Memory.{sides, wide}
use Rattle.tables.proofs.Deeds.{fits_there, put_done}
use Rattle.tables.proofs.layout.TableLayout.put.Goals as goal

pub put-requires-clause-fits : goal.put-requires-clause-fits
put-requires-clause-fits c =
    let l = c.args.self.now in
    fits_there (sides l) l.shape.width l.shaped (dims_few l.dims) (entry_of (wide l) c.args.fact) c.args.part.now c.requires.sound c.requires.long
    _ (rw c.one.ensures.0 c.place_in-place.ensures) (omega (arith, c.one.ensures.1)) c.one.ensures.2 c.requires.fits

pub returns : goal.returns
returns c =
    let l = c.args.self.now in
    let e = entry_of (wide l) c.args.fact in
    let r = put_done (sides l) l.shape.width l.shaped (dims_few l.dims) e c.args.part.now c.requires.sound c.requires.long
    _ (rw c.one.ensures.0 c.place_in-place.ensures) (omega (arith, c.one.ensures.1)) c.one.ensures.2
    c.put.new.row c.put.result c.requires.room c.put.ensures.told c.put.ensures.after in
    record { table = r.0; sound = r.1 }
