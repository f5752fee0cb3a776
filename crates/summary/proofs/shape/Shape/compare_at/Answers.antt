use Rattle.std.proofs.Common.{◌≡◌, ◌-◌, get_or, take, sym, ap, ◌∙◌, arith}
use Rattle.std.proofs.lemmas.Grind.{common_steps}
use Rattle.totals.specs.Tables.{Cell}
use Rattle.summary.specs.Memory.{table_in, none, Compared}
use Rattle.summary.proofs.Rows.{cell_at}
use Rattle.summary.proofs.Spots.{compared}
use Rattle.summary.proofs.shape.Shape.compare_at.Goals as goal

pub returns : goal.returns
returns c =
    let w = c.args.self.width in
    let p = (get_or (table_in w c.args.row.now) c.args.i none).place in
    let e : w - 0 ≡ w = omega arith in
    let at : take w c.part.result.now ≡ p = ap (take w) c.part.ensures.0 ∙ sym (ap (λ (g : Cell). g.place) (cell_at w c.args.i c.args.row.now c.requires.1)) in
    let h : Compared p (take w c.args.place) c.cmp.result = compared _ _ _ (rw (e, at) at c.cmp.ensures) in
    grind (arith, common_steps)
