use denote.Param.Members.{once}
use Rattle.std.specs.Fn.{FnOnceReturnsAtMut}
use Rattle.tables.specs.Memory.{part_size, Each}
use Rattle.tables.proofs.layout.TableLayout.each_part.Given as goal

abbrev pub invariant-loop-t : goal.invariant-loop-t
invariant-loop-t g l = Each (part_size l.self) (λ xs ys. FnOnceReturnsAtMut (once g.F.Fn) l.change xs tt ys) l.t l.initial.tables l.tables
