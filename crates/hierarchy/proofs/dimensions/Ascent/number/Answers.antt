use Rattle.std.proofs.Common.{◌≡◌, length, get_or, take, sym, ap, ◌∙◌, arith, rules}
use Rattle.std.proofs.lemmas.List.{length-take-le, get_or-take}
use Rattle.hierarchy.specs.Views.{carried, risen}
use Rattle.hierarchy.proofs.Rises.{lifted_at, lifted_past}
use Rattle.hierarchy.proofs.dimensions.Ascent.number.Goals as goal

pub returns-then-i-self : goal.returns-then-i-self
unfolding carried
returns-then-i-self c =
    let four : length c.args.place ≡ 4 = search rules in
    let long = length-take-le c.args.self.now.width c.args.self.now.each (omega (arith, c.args.self.now.few, c.args.self.now.four)) in
    let here = get_or-take c.args.self.now.width c.args.self.now.each c.args.i c.index-self-i.result c.if-i-self.true in
    let up = lifted_at (take c.args.self.now.width c.args.self.now.each) c.args.place c.args.i c.index-self-i.result (omega arith) (omega (arith, c.requires)) in
    c.number.ensures ∙ ap (λ r. risen r (get_or c.args.place c.args.i 0)) (sym here) ∙ sym up

pub returns-else-i-self : goal.returns-else-i-self
unfolding carried
returns-else-i-self c =
    let long = length-take-le c.args.self.now.width c.args.self.now.each (omega (arith, c.args.self.now.few, c.args.self.now.four)) in
    sym (lifted_past (take c.args.self.now.width c.args.self.now.each) c.args.place c.args.i (omega arith))
