use Rattle.model.proofs.theorems.refused_untouched.Goals as goal
use Rattle.model.proofs.Theory.{refused_untouched}

pub returns : goal.returns
returns c = refused_untouched
