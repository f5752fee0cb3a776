use Rattle.std.proofs.Common.{◌≡◌, ◌-◌, get_or, take, ap, arith}
use Rattle.std.specs.Ordering.{is_gt}
use Rattle.std.proofs.lemmas.Grind.{common_steps}
use Rattle.totals.specs.Tables.{Cell, before}
use Rattle.summary.specs.Memory.{table_in, none}
use Rattle.summary.proofs.Spots.{behind_is_gt}
use Rattle.summary.proofs.shape.Shape.comes_after.Goals as goal

pub returns : goal.returns
returns c =
    let t = table_in c.args.self.width c.args.row.now in
    let p = (get_or t (c.args.i - 1) none).place in
    let q = (get_or t c.args.i none).place in
    let e : take c.args.self.width c.group-last.result.place ≡ p = ap (λ (g : Cell). g.place) c.group-last.ensures.cell in
    let h : is_gt c.compare_at.result ≡ before p q = rw e at (behind_is_gt _ _ _ c.compare_at.ensures) in
    grind (arith, common_steps)
