use Rattle.model.proofs.theorems.tables_unseen.Goals as goal
use Rattle.model.proofs.Theory.{tables_unseen}

pub returns : goal.returns
returns c = tables_unseen
