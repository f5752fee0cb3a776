use Rattle.std.proofs.Common.{◌≡◌, ◌+◌, ◌-◌, ◌*◌, length, drop}
use Rattle.hierarchy.specs.Views.{dims_of}
use Rattle.selection.specs.Entry.{fact_count, facts_refusal}
use Rattle.selection.proofs.Ledger.{Left}
use Rattle.selection.proofs.entry.check_facts.Given as goal

-- what is left gives the answer
abbrev pub invariant-loop-part : goal.invariant-loop-part
invariant-loop-part l =
    Left (length (dims_of l.dims) + 1) l.numbers (length l.yielded) l.part-iterator
    × (facts_refusal (dims_of l.dims) (fact_count (dims_of l.dims) l.numbers) l.numbers
    ≡ facts_refusal (dims_of l.dims) (fact_count (dims_of l.dims) l.numbers - length l.yielded) (drop ((length (dims_of l.dims) + 1) * length l.yielded) l.numbers))
