use Rattle.std.proofs.Common.{◌≡◌, ℕ, ◌-◌, ◌<◌, ◌≤◌, true, length, get_or, take}
use Rattle.totals.specs.Tables.{before}
use Rattle.summary.specs.Memory.{table_in, none}
use Rattle.summary.proofs.shape.Shape.find.Given as goal

-- all before low come before the place, all from high on come behind it
abbrev pub invariant-loop-low : goal.invariant-loop-low
invariant-loop-low l =
    (l.low ≤ l.high) × (l.high ≤ length (table_in l.self.width l.row))
    × ((j : ℕ) → j < l.low → before (get_or (table_in l.self.width l.row) j none).place (take l.self.width l.place) ≡ true)
    × ((j : ℕ) → l.high ≤ j → j < length (table_in l.self.width l.row)
    → before (take l.self.width l.place) (get_or (table_in l.self.width l.row) j none).place ≡ true)

abbrev pub decreases-loop-low : goal.decreases-loop-low
decreases-loop-low l = l.high - l.low
