use Rattle.std.proofs.Common.{sym, ◌∙◌}
use Rattle.summary.proofs.Rows.{table_length}
use Rattle.tables.specs.Memory.{wide, part_size, part}
use Rattle.tables.proofs.layout.TableLayout.groups_at.Goals as goal

pub returns : goal.returns
returns c =
    let l = c.args.self.now in
    rw (l.shaped, c.part.ensures.0) at c.count.ensures ∙ sym (table_length (wide l) (part (part_size l) c.args.i c.args.tables.now))
