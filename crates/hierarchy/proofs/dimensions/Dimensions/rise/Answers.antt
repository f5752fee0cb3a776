use Rattle.std.proofs.Common.{arith}
use Rattle.hierarchy.proofs.Widths.{dims_at, dims_length}
use Rattle.hierarchy.proofs.dimensions.Dimensions.rise.Goals as goal

pub returns : goal.returns
returns c h n =
    let at = dims_at c.args.self.now c.args.i c.index-self-i.result (omega (arith, dims_length c.args.self.now)) in
    rw at (c.rise.ensures n)
