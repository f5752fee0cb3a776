use Rattle.summary.proofs.Rows.{table_length}
use Rattle.tables.specs.Memory.{wide, part_size, part}
use Rattle.tables.proofs.layout.TableLayout.roll.Goals as goal

pub roll-requires-clause-room : goal.roll-requires-clause-room
roll-requires-clause-room c =
    let l = c.args.self.now in
    rw (l.shaped, c.part.ensures.0, ← table_length (wide l) (part (part_size l) c.args.i c.args.tables.now)) c.requires.room
