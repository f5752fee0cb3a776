use Rattle.std.proofs.Common.{◌≡◌, ◌≤◌, length, take}
use Rattle.std.specs.Slice.Iter.{chunks_exact_rest, chunks_exact_size}
use Rattle.hierarchy.specs.Views.{dims_of}
use Rattle.totals.specs.Tables.{rolled}
use Rattle.summary.specs.Memory.{levels_in, count_in, table_in, stride, holding}
use Rattle.summary.proofs.Walks.{from_group}
use Rattle.summary.proofs.shape.Shape.roll.Given as goal

-- the row holds the groups so far, rolled up to its levels, and the others are left
abbrev pub invariant-loop-part : goal.invariant-loop-part
invariant-loop-part l =
    (l.to
    ≡ holding l.self.width
    (rolled (dims_of l.dims) (levels_in l.self.width l.from) (levels_in l.self.width l.initial.to) (take (length l.yielded) (table_in l.self.width l.from)))
    l.initial.to)
    × (length l.yielded ≤ count_in l.self.width l.from)
    × (chunks_exact_size l.part-iterator ≡ stride l.self.width)
    × (chunks_exact_rest l.part-iterator ≡ from_group l.self.width (length l.yielded) l.from)
