use Rattle.rollup.proofs.shown_right.Goals as goal
use Rattle.rollup.proofs.Reaches.{shown_right}

pub returns : goal.returns
returns c = shown_right
