use Rattle.benefit.proofs.theorems.sixty_three_in_a_hundred.Goals as goal
use Rattle.benefit.proofs.Share.{sixty_three_in_a_hundred}

pub returns : goal.returns
returns c = sixty_three_in_a_hundred
