use Rattle.journal.proofs.Theory.{broken_off}
use Rattle.journal.proofs.theorems.broken_off.Goals as goal

pub returns : goal.returns
returns c = broken_off
