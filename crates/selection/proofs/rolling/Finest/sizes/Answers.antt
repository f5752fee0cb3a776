use Rattle.std.proofs.Common.{◌≡◌, ◌+◌, ◌-◌, ◌<◌, length, get_or, vec_items, ap, ◌∙◌, arith, rules}
use Rattle.std.proofs.lemmas.List.{with_items_is}
use Rattle.hierarchy.specs.Levels.{total_levels, nth_levels}
use Rattle.hierarchy.specs.Views.{dims_of}
use Rattle.hierarchy.proofs.Widths.{dims_some}
use Rattle.summary.specs.Memory.{rolled_in}
use Rattle.greedy.specs.Turns.{AllLevels}
use Rattle.selection.specs.Rolling.{Front}
use Rattle.selection.proofs.Fronts.{front_new, front_stays, front_size, front_total}
use Rattle.greedy.proofs.Listed.{number_more}
use Rattle.selection.proofs.rolling.Finest.sizes.Goals as goal
use Rattle.selection.proofs.rolling.Finest.sizes.Goals.{Joined-levels-last-eq0, then-levels-last-eq0, else-levels-last-eq0}

-- the front serves the levels of this turn
front_here : (c : Joined-levels-last-eq0) → Front (dims_of c.args.self.dims.now) c.args.self.row.now (vec_items c.if-levels-last-eq0.front) c.loop-levels.levels-index
front_here c =
    let ss = dims_of c.args.self.dims.now in
    let xs = c.args.self.row.now in
    let i = c.loop-levels.levels-index in
    let all : AllLevels ss c.deref-levels-items.result.now = rw c.deref-levels-items.ensures.value c.in_ok-all.ensures in
    let below : i < total_levels ss = omega (arith, c.loop-levels-test.true, all.long) in
    let nth = all.each i _ c.loop-levels-test.true in
    elim c.if-levels-last-eq0.branch [
      | then-levels-last-eq0 w ↦
          let front = front_new c.of-shape.result.width ss xs w.deref_mut.result.now w.roll.new.to _ i c.of-shape.ensures below
          c.args.self.sound nth w.roll.ensures.after w.roll.ensures.sound in
          let items : vec_items c.if-levels-last-eq0.front ≡ w.roll.new.to = search (rules, with_items_is) in
          rw items front
      | else-levels-last-eq0 w ↦
          let last : get_or _ (length ss - 1) 0 ≡ 0 → ⊥ = rw c.width-last.ensures.0 at w.if-levels-last-eq0.false in
          rw w.front-is (front_stays ss xs (vec_items c.loop-levels.front) _ i (dims_some c.args.self.dims.now) nth last c.loop-levels.invariant.2)
    ]

pub size_at-requires : goal.size_at-requires
size_at-requires c =
    let front = front_here (goal.at.size_at-requires c).Joined-levels-last-eq0 in
    let all = front_total (dims_of c.args.self.dims.now) c.args.self.row.now (vec_items c.if-levels-last-eq0.front) c.loop-levels.levels-index front in
    rw c.deref.ensures.value
    (record { sound = front.sound; room = search rules; count_fits = rw all c.args.self.count_fits; sum_fits = rw all c.args.self.sum_fits })

pub loop-levels-preserved : goal.loop-levels-preserved
loop-levels-preserved c =
    let ss = dims_of c.args.self.dims.now in
    let xs = c.args.self.row.now in
    let i = c.loop-levels.levels-index in
    let fs = vec_items c.if-levels-last-eq0.front in
    let front = front_here (goal.at.loop-levels-preserved c).Joined-levels-last-eq0 in
    let all : AllLevels ss c.deref-levels-items.result.now = rw c.deref-levels-items.ensures.value c.in_ok-all.ensures in
    let size = rw c.deref.ensures.value at c.size_at.ensures in
    let size' : c.size_at.result ≡ length (rolled_in (length ss) ss (nth_levels ss i) fs) =
    size ∙ ap (λ ls. length (rolled_in (length ss) ss ls fs)) (all.each i _ c.loop-levels-test.true) in
    let e : i + 1 - 1 ≡ i = omega arith in
    let more = number_more (λ j. length (rolled_in (length ss) ss (nth_levels ss j) xs)) (vec_items c.loop-levels.sizes) (vec_items c.push.new.self) c.size_at.result i
    c.loop-levels.invariant.0 c.loop-levels.invariant.1 c.in_ok-push.ensures.items (size' ∙ front_size ss xs fs i c.args.self.levels front) in
    (more.0, more.1, (λ _. rw e front), search (rules, with_items_is), search (rules, with_items_is))
