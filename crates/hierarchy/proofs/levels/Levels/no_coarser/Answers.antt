use Rattle.std.proofs.Common.{◌≡◌, length, leb, sym, ◌∙◌, rules, arith}
use borrow.Author.Tests.{tests}
use Rattle.std.proofs.lemmas.Iterator.{YieldsList-from_slice, YieldsList-from_take, YieldsList-from_zip}
use Rattle.std.proofs.lemmas.Iterator.Search.{all_from_yields_List}
use Rattle.hierarchy.specs.Views.{dims_of}
use Rattle.hierarchy.proofs.Scans.{coarser_is}
use Rattle.hierarchy.proofs.Widths.{dims_few}
use Rattle.hierarchy.proofs.levels.Levels.no_coarser.Goals as goal

pub returns : goal.returns
returns c =
    let a : length c.args.self.at ≡ 4 = search rules in
    let b : length c.args.other.at ≡ 4 = search rules in
    let few = dims_few c.args.dims.now in
    let count : c.take.result.n ≡ length (dims_of c.args.dims.now) = search rules in
    all_from_yields_List (λ p. leb p.0 p.1) c.all.new.self c.all.new.f c.all.result c.all.ensures.ran
    (YieldsList-from_take (length (dims_of c.args.dims.now)) (YieldsList-from_zip (YieldsList-from_slice c.args.self.at cc) (YieldsList-from_slice c.args.other.at cc)) count)
    (λ x b q k. search (rules, tests)) ∙ sym (coarser_is (dims_of c.args.dims.now) c.args.self.at c.args.other.at (omega arith) (omega arith))
