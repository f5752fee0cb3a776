use Rattle.hierarchy.specs.Views.{dims_of}
use Rattle.greedy.proofs.Lowering.{Lowering}
use Rattle.greedy.proofs.by_sizes.lower.Given as goal

abbrev pub invariant-loop-question : goal.invariant-loop-question
invariant-loop-question l = Lowering (dims_of l.dims) l.initial.all l.all l.at l.question-index
