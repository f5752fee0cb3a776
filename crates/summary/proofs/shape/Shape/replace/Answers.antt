use Rattle.std.proofs.Common.{length, ◌∙◌}
use Rattle.summary.specs.Memory.{count_in, cell_of}
use Rattle.summary.proofs.Rows.{group_end, row_set}
use Rattle.summary.proofs.shape.Shape.replace.Goals as goal

pub write-requires : goal.write-requires
write-requires c =
    group_end c.args.self.width (count_in c.args.self.width c.args.row.now) c.args.i (length c.args.row.now) c.requires.0 c.requires.1

pub returns : goal.returns
returns c =
    c.write.ensures
    ∙ row_set c.args.self.width c.args.i c.args.row.now (cell_of c.args.self.width c.args.group) c.requires.0 c.requires.1
