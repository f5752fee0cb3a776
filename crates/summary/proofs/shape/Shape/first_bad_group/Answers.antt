use Rattle.std.proofs.Common.{◌≡◌, true, false, rules}
use borrow.Author.Tests.{tests}
use Rattle.std.proofs.lemmas.Iterator.{first_from_Range}
use Rattle.summary.specs.Memory.{table_in, bad}
use Rattle.summary.proofs.Checked.{first_bad}
use Rattle.summary.proofs.shape.Shape.first_bad_group.Goals as goal

pub returns : goal.returns
returns c =
    let w = c.args.self.width in
    let xs = c.args.row.now in
    let h = first_from_Range _ _ _ _ (λ k. bad (table_in w xs) k ≡ true) (λ k. bad (table_in w xs) k ≡ false) c.find.ensures.ran (λ k q m. search (rules, tests)) (λ k q m. search (rules, tests)) in
    first_bad w xs c.count.result _ c.count.ensures c.requires h
