use Rattle.std.proofs.Common.{◌≡◌, ◌+◌, None, Option, ℕ, sym, ◌∙◌, rules, arith}
use Rattle.hierarchy.proofs.Scans.{wrong_none}
use Rattle.hierarchy.proofs.fact.Fact.read.Goals as goal

pub bounds-row-width : goal.bounds-row-width
bounds-row-width c =
    let none : ◌≡◌ {A = Option ℕ} c.wrong_number.result None = search rules in
    omega (arith, (wrong_none 0 (c.width-width.result + 1) c.args.row.now (sym c.wrong_number.ensures ∙ none)).0)
