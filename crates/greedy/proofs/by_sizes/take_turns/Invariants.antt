use Rattle.std.proofs.Common.{vec_items}
use Rattle.hierarchy.specs.Views.{dims_of}
use Rattle.greedy.specs.Candidates.{sizes_of, costs_of}
use Rattle.greedy.proofs.Turning.{Between, Leading, Asking}
use Rattle.greedy.proofs.by_sizes.take_turns.Given as goal

abbrev pub invariant-questions : goal.invariant-questions
invariant-questions l = Asking (dims_of l.dims) (sizes_of l.taken-items) (costs_of l.taken-items) l.i l.question-index l.gain l.left

abbrev pub invariant-levels : goal.invariant-levels
invariant-levels l = Leading (dims_of l.dims) (sizes_of l.taken-items) (costs_of l.taken-items) l.i l.best l.most

abbrev pub invariant-turns : goal.invariant-turns
invariant-turns l = Between (dims_of l.dims) l.all (sizes_of l.initial.all) l.saves (vec_items l.turns) l.counter
