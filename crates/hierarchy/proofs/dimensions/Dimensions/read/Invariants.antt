use Rattle.std.proofs.Common.{◌≡◌, ℕ, ◌*◌, ◌<◌, length, get_or, take, drop}
use Rattle.hierarchy.specs.declared.dimension.Dimension.{Dimension}
use Rattle.hierarchy.proofs.Readings.{Reads}
use Rattle.hierarchy.proofs.dimensions.Dimensions.read.Given as goal

-- the parts that are left, and what was read of those before them
abbrev pub invariant-loop-i : goal.invariant-loop-i
invariant-loop-i l =
    (length l.each ≡ 4) × (l.i-iterator.iter.size ≡ 5) × (l.i-iterator.count ≡ length l.yielded)
    × (l.i-iterator.iter.rest.now ≡ drop (5 * length l.yielded) (take (5 * l.width) (drop 1 l.row)))
    × ((j : ℕ) → j < length l.yielded → (d : Dimension) → Reads l.row j (get_or l.each j d))
