use Rattle.std.proofs.Common.{◌≡◌, rules, tests, get_or, vec_items, arith}
use Rattle.std.proofs.lemmas.Iterator.{items_from_collect, YieldsList-from_slice, YieldsList-from_range, YieldsList-from_zip, YieldsList-from_map}
use Rattle.std.proofs.lemmas.Result.{IfOk-weaker}
use Rattle.hierarchy.specs.Dimensions.{four}
use Rattle.hierarchy.specs.Levels.{nth_levels}
use Rattle.hierarchy.specs.Views.{dims_of}
use Rattle.hierarchy.proofs.Widths.{dims_few}
use Rattle.greedy.proofs.Listed.{candidate_at, candidates_listed}
use Rattle.greedy.proofs.by_sizes.candidates.Goals as goal

pub bounds-sizes-0 : goal.bounds-sizes-0
bounds-sizes-0 c = omega (arith, c.requires.0, c.count-count.ensures.0, c.count-count.ensures.1.0)

pub returns : goal.returns
returns c =
    let ss = dims_of c.args.dims.now in
    let n = c.count-count.result in
    let zs = c.args.sizes.now in
    let made = items_from_collect c.collect.result c.collect.ensures.ran
    (YieldsList-from_map _ (candidate_at ss (get_or zs 0 0)) (YieldsList-from_zip (YieldsList-from_range 0 n n (rw c.map.ensures.source c.zip.ensures.first) (omega arith)) (YieldsList-from_slice zs (rw c.map.ensures.source c.zip.ensures.second.0)))
    c.map.ensures.closure (λ x r q k.
    let at : r.levels.at ≡ four (nth_levels ss x.0) = search (rules, tests) in
    let size : r.size ≡ x.1.now = search (rules, tests) in
    let cost : r.cost ≡ get_or zs 0 0 = search (rules, tests) in
    (search (rules, tests), λ i. record { levels = record { at = at i }; size = size i; cost = cost i }))) in
    IfOk-weaker c.collect.result _ _
    (λ v e. candidates_listed ss n zs (get_or zs 0 0) (vec_items v) (dims_few c.args.dims.now) c.count-count.ensures.0 c.count-count.ensures.1.0 c.count-count.ensures.1.1 (omega (arith, c.requires.0, c.count-count.ensures.0)) e) made
