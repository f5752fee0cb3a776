use Rattle.model.proofs.theorems.facts_whole.Goals as goal
use Rattle.model.proofs.Theory.{facts_whole}

pub returns : goal.returns
returns c = facts_whole
