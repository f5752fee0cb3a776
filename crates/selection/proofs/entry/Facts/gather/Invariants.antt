use Rattle.std.proofs.Common.{◌≡◌, ◌+◌, length, take}
use Rattle.hierarchy.specs.Levels.{finest}
use Rattle.hierarchy.specs.Views.{dims_of}
use Rattle.totals.specs.Tables.{rolled}
use Rattle.summary.specs.Memory.{holding}
use Rattle.selection.proofs.Ledger.{Left, fact_cells}
use Rattle.selection.proofs.entry.Facts.gather.Given as goal

-- the row holds the facts so far
abbrev pub invariant-loop-part : goal.invariant-loop-part
invariant-loop-part l =
    let ss = dims_of l.fn.self.dims.now in
    Left (length ss + 1) l.fn.self.numbers.now (length l.yielded) l.part-iterator
    × (l.row ≡ holding l.shape.width (rolled ss (finest ss) (finest ss) (take (length l.yielded) (fact_cells ss l.fn.self.count l.fn.self.numbers.now))) l.initial.row)
