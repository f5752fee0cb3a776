use Rattle.ledger.proofs.Counts.{insert_counts}
use Rattle.ledger.proofs.theorems.insert_counts.Goals as goal

pub returns : goal.returns
returns c = insert_counts
