use Rattle.std.proofs.Common.{sym}
use Rattle.hierarchy.proofs.Widths.{dims_length}
use Rattle.hierarchy.proofs.dimensions.Dimensions.width.Goals as goal

pub returns : goal.returns
returns c = (sym (dims_length c.args.self.now), (c.args.self.now.some, c.args.self.now.few))
