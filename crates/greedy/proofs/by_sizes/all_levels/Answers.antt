use Rattle.std.proofs.Common.{rules, tests, ap, ℕ, List, arith, vec_items}
use Rattle.std.proofs.lemmas.Iterator.{items_from_collect, YieldsList-from_range, YieldsList-from_map}
use Rattle.std.proofs.lemmas.Result.{IfOk-weaker}
use Rattle.hierarchy.specs.Views.{dims_of}
use Rattle.hierarchy.proofs.Widths.{dims_few}
use Rattle.greedy.proofs.Listed.{nth_at, all_listed}
use Rattle.greedy.proofs.by_sizes.all_levels.Goals as goal

pub returns : goal.returns
returns c =
    let ss = dims_of c.args.dims.now in
    let made = items_from_collect c.collect.result c.collect.ensures.ran
    (YieldsList-from_map _ (nth_at ss) (YieldsList-from_range 0 c.count.result c.count.result (cc) (omega arith)) c.map.ensures.closure (λ x r q k. (search (rules, tests), ap (λ (a : List ℕ). record { at = a }) (search (rules, tests))))) in
    IfOk-weaker c.collect.result _ _ (λ v e. all_listed ss c.count.result (vec_items v) (dims_few c.args.dims.now) c.count.ensures.0 c.count.ensures.1.0 c.count.ensures.1.1 e) made
