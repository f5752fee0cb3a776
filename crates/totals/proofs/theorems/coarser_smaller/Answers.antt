use Rattle.totals.proofs.theorems.coarser_smaller.Goals as goal
use Rattle.totals.proofs.Theory.{coarser_smaller}

pub returns : goal.returns
returns c = coarser_smaller
