use Rattle.ledger.proofs.Counts.{insert_undone}
use Rattle.ledger.proofs.theorems.insert_undone.Goals as goal

pub returns : goal.returns
returns c = insert_undone
