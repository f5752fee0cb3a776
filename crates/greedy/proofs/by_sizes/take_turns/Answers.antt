use Rattle.std.proofs.Common.{◌≡◌, ◌+◌, length, vec_items, refl, arith, rules}
use Rattle.hierarchy.specs.Views.{dims_of}
use Rattle.greedy.specs.Candidates.{sizes_of, costs_of}
use Rattle.greedy.proofs.Turning.{between_none, between_more, between_bounded, asked_none, asked_fits, asked_pays, asked_next, leading_none, leading_skip, leading_stays, leading_takes, leading_below, leading_fits}
use Rattle.greedy.proofs.by_sizes.take_turns.Goals as goal
use Rattle.greedy.proofs.by_sizes.take_turns.Goals.{then-gain-most, else-gain-most}

pub turns-init : goal.turns-init
turns-init c = rw c.new-turns.ensures.items (between_none (dims_of c.args.dims.now) c.args.all.now c.requires.all c.requires.counted c.requires.start)

pub levels-init : goal.levels-init
levels-init c = leading_none (dims_of c.args.dims.now) (sizes_of c.turns.all) (costs_of c.turns.all) (λ q h. c.turns.invariant.standing.small q (omega arith))

pub questions-init : goal.questions-init
questions-init c = asked_none (dims_of c.args.dims.now) (sizes_of c.turns.all) (costs_of c.turns.all) c.levels.i c.total-costly.result c.total-costly.ensures

pub overflow_add-gain : goal.overflow_add-gain
overflow_add-gain c =
    omega (
      arith,
      asked_fits (dims_of c.args.dims.now) (sizes_of c.turns.all) (costs_of c.turns.all) c.levels.i c.questions.question-index c.questions.gain c.questions.left c.questions.invariant (omega arith),
      between_bounded (dims_of c.args.dims.now) c.turns.all (sizes_of c.args.all.now) c.turns.saves (vec_items c.turns.turns) c.turns.counter c.turns.invariant,
    )

pub levels-preserved-then-gain-left : goal.levels-preserved-then-gain-left
levels-preserved-then-gain-left c =
    leading_skip (dims_of c.args.dims.now) (sizes_of c.turns.all) (costs_of c.turns.all) c.levels.i c.levels.best c.levels.most c.questions.question-index
    c.questions.gain c.questions.left c.levels.invariant c.questions.invariant (omega arith) c.if-gain-left.true

pub overflow_sub-left : goal.overflow_sub-left
overflow_sub-left c =
    asked_pays (dims_of c.args.dims.now) c.turns.all c.levels.i c.questions.question-index c.questions.gain c.questions.left _ c.questions-test.true
    c.questions.invariant

pub overflow_add-gain-in-questions : goal.overflow_add-gain-in-questions
overflow_add-gain-in-questions c =
    let next = asked_next (dims_of c.args.dims.now) c.turns.all c.levels.i c.questions.question-index c.questions.gain
    c.questions.left c.takes_off-gain.result _ _ c.turns.invariant.all c.levels-test.true c.questions-test.true c.questions.invariant c.takes_off-gain.ensures in
    omega (
      arith,
      asked_fits (dims_of c.args.dims.now) (sizes_of c.turns.all) (costs_of c.turns.all) c.levels.i (c.questions.question-index + 1) _ _ next (omega arith),
      between_bounded (dims_of c.args.dims.now) c.turns.all (sizes_of c.args.all.now) c.turns.saves (vec_items c.turns.turns) c.turns.counter c.turns.invariant,
    )

pub questions-preserved : goal.questions-preserved
questions-preserved c =
    asked_next (dims_of c.args.dims.now) c.turns.all c.levels.i c.questions.question-index c.questions.gain
    c.questions.left c.takes_off-gain.result _ _ c.turns.invariant.all c.levels-test.true c.questions-test.true c.questions.invariant c.takes_off-gain.ensures

pub levels-preserved : goal.levels-preserved
levels-preserved c =
    let all : c.questions.question-index ≡ length (costs_of c.turns.all) = omega arith in
    elim c.if-gain-most.branch [
      | then-gain-most w ↦ rw (w.best-is, w.most-is) (leading_takes (dims_of c.args.dims.now) (sizes_of c.turns.all) (costs_of c.turns.all) c.levels.i c.levels.best c.levels.most c.questions.question-index
          c.questions.gain c.questions.left c.levels.invariant c.questions.invariant all w.if-gain-most.true)
      | else-gain-most w ↦ rw (w.best-is, w.most-is) (leading_stays (dims_of c.args.dims.now) (sizes_of c.turns.all) (costs_of c.turns.all) c.levels.i c.levels.best c.levels.most c.questions.question-index
          c.questions.gain c.questions.left c.levels.invariant c.questions.invariant all w.if-gain-most.false)
    ]

pub overflow_add-saves : goal.overflow_add-saves
overflow_add-saves c =
    omega (
      arith,
      leading_fits (dims_of c.args.dims.now) (sizes_of c.turns.all) (costs_of c.turns.all) c.levels.i c.levels.best c.levels.most c.levels.invariant,
      between_bounded (dims_of c.args.dims.now) c.turns.all (sizes_of c.args.all.now) c.turns.saves (vec_items c.turns.turns) c.turns.counter c.turns.invariant,
    )

pub lower-requires-clause-there : goal.lower-requires-clause-there
lower-requires-clause-there c =
    leading_below (dims_of c.args.dims.now) (sizes_of c.turns.all) (costs_of c.turns.all) (length c.turns.all) c.levels.i c.levels.best c.levels.most
    c.levels.invariant (omega (arith, c.turns.invariant.all.some)) (omega arith)

pub offset_bounds-all-best : goal.offset_bounds-all-best
offset_bounds-all-best c =
    omega (
      arith,
      c.turns.invariant.all.few,
      leading_below (dims_of c.args.dims.now) (sizes_of c.turns.all) (costs_of c.turns.all) (length c.turns.all) c.levels.i c.levels.best c.levels.most
          c.levels.invariant (omega (arith, c.turns.invariant.all.some)) (omega arith),
    )

pub bounds-all-best : goal.bounds-all-best
bounds-all-best c =
    omega (
      arith,
      leading_below (dims_of c.args.dims.now) (sizes_of c.turns.all) (costs_of c.turns.all) (length c.turns.all) c.levels.i c.levels.best c.levels.most
          c.levels.invariant (omega (arith, c.turns.invariant.all.some)) (omega arith),
    )

pub turns-preserved : goal.turns-preserved
turns-preserved c =
    between_more (dims_of c.args.dims.now) c.turns.all c.lower.new.all (sizes_of c.args.all.now) c.turns.saves c.levels.i
    c.levels.best c.levels.most (vec_items c.turns.turns) (vec_items c.push.new.self) _ c.turns.counter _ c.turns.invariant c.levels.invariant
    (omega arith) c.lower.ensures.levels c.lower.ensures.sizes c.lower.ensures.costs c.in_ok-push.ensures.items refl (refl {a = c.turns.saves + c.levels.most})

pub returns : goal.returns
returns c = (search rules, λ sz e. (c.turns.invariant.standing.model sz (rw c.turns.invariant.sizes e)).1)
