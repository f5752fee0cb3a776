use Rattle.std.proofs.Common.{◌≡◌, length, vec_items, sym, ap, ◌∙◌, arith}
use Rattle.std.proofs.lemmas.Result.{err_from_is_err_and}
use Rattle.hierarchy.specs.Views.{dims_of}
use Rattle.summary.specs.Memory.{count_in}
use Rattle.selection.specs.Entry.{facts_in, groups_refusal}
use Rattle.selection.proofs.Ledger.{gathered_small, limits_few, over_groups}
use Rattle.selection.proofs.entry.choose_over.Goals as goal

pub returns-in_err-check_groups : goal.returns-in_err-check_groups
returns-in_err-check_groups c =
    let ss = dims_of c.args.dims.now in
    let p = err_from_is_err_and c.from_residual-in_err-check_groups.result c.from_residual-in_err-check_groups.ensures.1 in
    let over = over_groups ss c.args.n c.args.numbers.now (vec_items c.in_ok-row.row) c.in_ok-count.count c.in_ok-count.ensures.0 c.in_ok-count.ensures.1
    c.in_ok-check_limits.ensures c.in_ok-row.ensures in
    let groups : c.count.result ≡ count_in (length ss) (vec_items c.in_ok-row.row) = rw (c.of.ensures, c.deref.ensures.value) at c.count.ensures in
    rw (p.1, p.2) (over ∙ (ap groups_refusal (sym groups) ∙ c.in_err-check_groups.ensures))

pub invariant_of-finest : goal.invariant_of-finest
invariant_of-finest c =
    let g = c.in_ok-row.ensures in
    let few = limits_few c.in_ok-count.count c.args.n c.in_ok-check_limits.ensures in
    let small = gathered_small (dims_of c.args.dims.now) c.args.numbers.now (vec_items c.in_ok-row.row) c.in_ok-count.ensures.1
    (omega (arith, c.in_ok-count.ensures.0)) g in
    rw c.deref-2.ensures.value (record { sound = g.sound; levels = g.levels; count_fits = small.0; sum_fits = small.1 })

pub returns : goal.returns
returns c =
    let ss = dims_of c.args.dims.now in
    let g = c.in_ok-row.ensures in
    let over = over_groups ss c.args.n c.args.numbers.now (vec_items c.in_ok-row.row) c.in_ok-count.count c.in_ok-count.ensures.0 c.in_ok-count.ensures.1
    c.in_ok-check_limits.ensures g in
    let groups : c.count.result ≡ count_in (length ss) (vec_items c.in_ok-row.row) = rw (c.of.ensures, c.deref.ensures.value) at c.count.ensures in
    let made = c.in_ok-choose.ensures in
    (over ∙ (ap groups_refusal (sym groups) ∙ c.in_ok-check_groups.ensures), made.0, made.1 (facts_in ss c.args.numbers.now) (rw c.deref-2.ensures.value g.facts))
