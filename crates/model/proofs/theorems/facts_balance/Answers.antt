use Rattle.model.proofs.theorems.facts_balance.Goals as goal
use Rattle.model.proofs.Theory.{facts_balance}

pub returns : goal.returns
returns c = facts_balance
