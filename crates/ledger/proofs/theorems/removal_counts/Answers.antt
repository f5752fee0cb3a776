use Rattle.ledger.proofs.Counts.{removal_counts}
use Rattle.ledger.proofs.theorems.removal_counts.Goals as goal

pub returns : goal.returns
returns c = removal_counts
