use Rattle.std.proofs.Common.{◌≡◌, ℕ, ◌+◌, ◌-◌, ◌*◌, ◌<◌, ◌≤◌, true, List, ◌++◌, [], ◌∷◌, map, length, get_or, take, drop, Some, None, sym, refl, ap, ◌∙◌, rules, arith, length-append}
use Rattle.std.proofs.lemmas.Grind.{common_steps}
use Rattle.std.proofs.lemmas.List.{length-set}
use Rattle.std.proofs.lemmas.Result.{err_from_is_err_and}
use Rattle.hierarchy.specs.Reading.{is_whole, dims_from, dims_refusal}
use Rattle.hierarchy.specs.Views.{factors_of, dims_of}
use Rattle.hierarchy.specs.declared.dimension.Dimension.{Dimension}
use Rattle.replies.specs.declared.Refusal.TheVariants.{BadDimension}
use Rattle.hierarchy.proofs.Readings.{Reads, part_turn, part_end, part_reads, part_bad, reads_more, read_all, read_bad}
use Rattle.hierarchy.proofs.dimensions.Dimensions.read.Goals as goal

pub loop-i-init : goal.loop-i-init
loop-i-init c =
    let e : 1 + 5 * c.in_ok-width.width - 1 ≡ 5 * c.in_ok-width.width = omega arith in
    let iter : c.into_iter-i-iterator.result.iter ≡ c.chunks_exact.result = search rules in
    let rest = rw e at c.chunks_exact.ensures.rest in
    (refl, ap (λ i. i.size) iter ∙ c.chunks_exact.ensures.size, search rules, ap (λ i. i.rest.now) iter ∙ rest, λ j h d. absurd (omega arith))

pub bounds-each-i : goal.bounds-each-i
bounds-each-i c =
    let (four, size, count, rest, reads) = c.loop-i.invariant in
    let (whole, first, some, few, long) = c.in_ok-width.ensures in
    let s = c.in-Some.ensures.steps in
    let turn = part_turn c.in_ok-width.width (length c.loop-i.yielded) c.args.row.now c.loop-i.i-iterator.iter.rest.now c.in-Some.part.now c.next.new.self.iter.rest.now rest long s.0.1.0 (s.0.1.1 ∙ size) in
    omega (arith, turn.0, s.1, count, few)

pub returns-in_err-each : goal.returns-in_err-each
returns-in_err-each c =
    let (four, size, count, rest, reads) = c.loop-i.invariant in
    let (whole, first, some, few, long) = c.in_ok-width.ensures in
    let s = c.in-Some.ensures.steps in
    let n = length c.loop-i.yielded in
    let turn = part_turn c.in_ok-width.width n c.args.row.now c.loop-i.i-iterator.iter.rest.now c.in-Some.part.now c.next.new.self.iter.rest.now rest long s.0.1.0 (s.0.1.1 ∙ size) in
    let p = err_from_is_err_and c.from_residual-in_err-each.result c.from_residual-in_err-each.ensures.1 in
    let none : c.read.result ≡ None = search rules in
    let is : c.in_err-each.field-0.0 ≡ BadDimension c.in-Some.i = search rules in
    let i : n ≡ c.in-Some.i = omega (arith, s.1, count) in
    let bad = part_bad c.in_ok-width.width n c.args.row.now c.in-Some.part.now turn.0 long turn.1 (rw none at c.read.ensures) in
    rw (p.1, p.2) (read_bad c.in_ok-width.width n c.args.row.now first whole turn.0 (λ m k. (reads m k c.plain-each.result).0) bad ∙ ap Some (ap BadDimension i ∙ sym is))

pub loop-i-preserved : goal.loop-i-preserved
loop-i-preserved c =
    let (four, size, count, rest, reads) = c.loop-i.invariant in
    let (whole, first, some, few, long) = c.in_ok-width.ensures in
    let s = c.in-Some.ensures.steps in
    let n = length c.loop-i.yielded in
    let turn = part_turn c.in_ok-width.width n c.args.row.now c.loop-i.i-iterator.iter.rest.now c.in-Some.part.now c.next.new.self.iter.rest.now rest long s.0.1.0 (s.0.1.1 ∙ size) in
    let got : c.read.result ≡ Some c.in_ok-each.field-0 = search rules in
    let read = rw got at c.read.ensures in
    let now = part_reads c.in_ok-width.width n c.args.row.now c.in-Some.part.now c.in_ok-each.field-0 turn.0 long turn.1 read.0 read.1 in
    let more : length (c.loop-i.yielded ++ (c.in-Some.i, c.in-Some.part) ∷ []) ≡ n + 1 = omega (arith, length-append c.loop-i.yielded ((c.in-Some.i, c.in-Some.part) ∷ [])) in
    rw (more, s.1, count) (
      length-set c.loop-i.each n c.in_ok-each.field-0 ∙ four,
      s.0.0 ∙ size,
      omega (arith, s.2, count),
      turn.2,
      reads_more n c.args.row.now c.loop-i.each c.in_ok-each.field-0 (omega (arith, turn.0, few, four)) reads now,
    )

pub invariant_of-result : goal.invariant_of-result
invariant_of-result c = record { some = c.in_ok-width.ensures.2; few = c.in_ok-width.ensures.3; four = grind (arith, common_steps, c.loop-i.invariant.0) }

-- what is kept of what was read
read_kept : (w : ℕ) (xs : List ℕ) (ds kept : List Dimension) → kept ≡ ds → w ≤ length ds → w ≡ get_or xs 0 0 → is_whole xs ≡ true
    → ((j : ℕ) → j < w → (d : Dimension) → Reads xs j (get_or ds j d)) → Dimension
    → (dims_refusal xs ≡ None) × (map factors_of (take w kept) ≡ dims_from (get_or xs 0 0) (drop 1 xs))
read_kept w xs ds kept same l e whole h d = rw same (read_all w xs ds l e whole h d)

pub returns : goal.returns
unfolding dims_of
returns c =
    let (four, size, count, rest, reads) = c.loop-i.invariant in
    let (whole, first, some, few, long) = c.in_ok-width.ensures in
    let past : c.in_ok-width.width ≤ length c.loop-i.yielded = part_end c.in_ok-width.width (length c.loop-i.yielded) c.args.row.now c.loop-i.i-iterator.iter.rest.now rest long (omega (arith, c.in-None.ensures.steps.0.1.0, size)) in
    read_kept c.in_ok-width.width c.args.row.now c.loop-i.each _ (grind (arith, common_steps, four)) (omega (arith, few, four)) first whole (λ j h d. reads j (omega arith) d) c.plain-each.result
