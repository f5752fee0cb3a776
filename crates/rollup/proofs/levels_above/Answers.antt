use Rattle.std.proofs.Common.{◌≡◌, true, false, take, Some, sym, ap, ◌∙◌, arith, rules}
use borrow.Author.Tests.{tests}
use Rattle.std.proofs.lemmas.Iterator.{first_from_Range}
use Rattle.hierarchy.specs.Dimensions.{four}
use Rattle.hierarchy.specs.Views.{dims_of}
use Rattle.replies.specs.declared.Refusal.TheVariants.{NoLevel}
use Rattle.rollup.specs.Entry.{out_of_reach, reach_refusal}
use Rattle.rollup.proofs.Refusals.{first_found}
use Rattle.rollup.proofs.levels_above.Goals as goal

pub returns-in-Some : goal.returns-in-Some
unfolding reach_refusal
returns-in-Some c =
    let far = out_of_reach (dims_of c.args.dims.now) c.args.from.now c.args.to.now in
    let h = first_from_Range _ _ _ _ (λ k. far k ≡ true) (λ k. far k ≡ false) c.find-bad.ensures.ran (λ k q m. search (rules, tests)) (λ k q m. search (rules, tests)) in
    let first = first_found far _ _ _ c.width.ensures.0 h in
    rw (sym first, c.in-Some.is) (ap (λ d. Some (NoLevel d)) (omega arith))

pub returns : goal.returns
unfolding reach_refusal
returns c =
    let far = out_of_reach (dims_of c.args.dims.now) c.args.from.now c.args.to.now in
    let h = first_from_Range _ _ _ _ (λ k. far k ≡ true) (λ k. far k ≡ false) c.find-bad.ensures.ran (λ k q m. search (rules, tests)) (λ k q m. search (rules, tests)) in
    let first = first_found far _ _ _ c.width.ensures.0 h in
    (rw (sym first, c.in_default.is), c.front.ensures ∙ ap (λ w. four (take w c.args.to.now)) c.width-2.ensures.0)
