use Rattle.std.proofs.Common.{ap, ◌∙◌}
use Rattle.hierarchy.specs.Dimensions.{four}
use Rattle.hierarchy.specs.Places.{place_at}
use Rattle.hierarchy.specs.Views.{dims_of}
use Rattle.hierarchy.proofs.Rises.{finest_zeros}
use Rattle.hierarchy.proofs.Widths.{dims_few}
use Rattle.hierarchy.proofs.dimensions.Dimensions.place_at.Goals as goal

pub returns : goal.returns
unfolding place_at
returns c =
    let zeros = finest_zeros (dims_of c.args.self.now) (dims_few c.args.self.now) in
    let up = c.ascent.ensures c.args.place in
    let start = c.finest.ensures in
    c.place.ensures ∙ ap four (rw (start, zeros) at up)
