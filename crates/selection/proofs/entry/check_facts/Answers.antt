use Rattle.std.proofs.Common.{◌+◌, length, sym, ◌∙◌}
use Rattle.std.proofs.lemmas.List.{length_push}
use Rattle.std.proofs.lemmas.Result.{err_from_is_err_and}
use Rattle.hierarchy.specs.Views.{dims_of}
use Rattle.selection.specs.Entry.{fact_count}
use Rattle.selection.proofs.Ledger.{count_is, count_above, count_most, left_more, left_none, refusal_next, refusal_here, refusal_end}
use Rattle.selection.proofs.entry.check_facts.Goals as goal

pub returns-in_err-read : goal.returns-in_err-read
returns-in_err-read c =
    let ss = dims_of c.args.dims.now in
    let xs = c.args.numbers.now in
    let i = length c.loop-part.yielded in
    let p = err_from_is_err_and c.from_residual.result c.from_residual.ensures.1 in
    let more = left_more (length ss + 1) xs i c.loop-part.part-iterator c.next.new.self c.next.result c.in-Some.part c.loop-part.invariant.0 c.in-Some.is c.next.ensures.steps in
    rw (p.1, p.2) (c.loop-part.invariant.1 ∙ refusal_here ss (fact_count ss xs) xs i (count_above ss xs i more.2) _ (rw more.0 at c.in_err-read.ensures))

pub loop-part-preserved : goal.loop-part-preserved
loop-part-preserved c =
    let ss = dims_of c.args.dims.now in
    let xs = c.args.numbers.now in
    let i = length c.loop-part.yielded in
    let more = left_more (length ss + 1) xs i c.loop-part.part-iterator c.next.new.self c.next.result c.in-Some.part c.loop-part.invariant.0 c.in-Some.is c.next.ensures.steps in
    rw (length_push c.loop-part.yielded c.in-Some.part)
    (more.1, c.loop-part.invariant.1 ∙ refusal_next ss (fact_count ss xs) xs i (count_above ss xs i more.2) (rw more.0 at c.in_ok-read.ensures.0))

pub returns : goal.returns
returns c =
    let ss = dims_of c.args.dims.now in
    let xs = c.args.numbers.now in
    let i = length c.loop-part.yielded in
    let end = left_none (length ss + 1) xs i c.loop-part.part-iterator c.next.new.self c.next.result c.loop-part.invariant.0 c.in-None.is c.next.ensures.steps in
    (rw c.width-long.ensures.0 at c.div_ceil.ensures ∙ sym (count_is ss xs), c.loop-part.invariant.1 ∙ refusal_end ss (fact_count ss xs) xs i (count_most ss xs i end))
