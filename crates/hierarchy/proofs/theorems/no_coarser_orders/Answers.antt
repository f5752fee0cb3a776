use Rattle.hierarchy.proofs.Theory.{no_coarser_orders}
use Rattle.hierarchy.proofs.theorems.no_coarser_orders.Goals as goal

pub returns : goal.returns
returns c = no_coarser_orders
