use Rattle.std.proofs.Common.{take, rules}
use Rattle.hierarchy.specs.Views.{levels_of}
use Rattle.tables.specs.Memory.{wide}
use Rattle.hierarchy.proofs.Rows.{same_rows}
use Rattle.tables.proofs.layout.TableLayout.is_at.Goals as goal

pub returns : goal.returns
returns c =
    let same = same_rows (levels_of (wide c.args.self.now) c.args.levels) (take (wide c.args.self.now) c.args.table.now) in
    search rules
