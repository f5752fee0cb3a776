use Rattle.std.proofs.Common.{arith}
use Rattle.hierarchy.proofs.Widths.{dims_few}
use Rattle.tables.specs.Memory.{wide}
use Rattle.tables.proofs.Places.{size_bound}
use Rattle.tables.proofs.Moves.{table_fits}
use Rattle.tables.proofs.layout.TableLayout.length_at.Goals as goal

pub start-requires : goal.start-requires
start-requires c =
    let l = c.args.self.now in
    let fits = table_fits l c.args.tables.now c.args.i c.requires.0 c.requires.1 in
    rw (l.shaped, c.groups_at.ensures) (omega (arith, fits, size_bound (wide l) l.groups (dims_few l.dims) l.bounded))
