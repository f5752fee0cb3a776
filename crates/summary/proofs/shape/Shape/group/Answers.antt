use Rattle.std.proofs.Common.{sym, ap, ◌∙◌}
use Rattle.summary.specs.Memory.{cell_in}
use Rattle.summary.proofs.Rows.{cell_at}
use Rattle.summary.proofs.shape.Shape.group.Goals as goal

pub returns : goal.returns
returns c =
    let w = c.args.self.width in
    let h = cell_at w c.args.i c.args.row.now c.requires.1 in
    record { cell = c.read.ensures.cell ∙ (ap (cell_in w) c.part.ensures.0 ∙ sym h); rest = c.read.ensures.rest }
