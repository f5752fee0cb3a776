use Rattle.totals.proofs.theorems.taken_back.Goals as goal
use Rattle.totals.proofs.Theory.{taken_back}

pub returns : goal.returns
returns c = taken_back
