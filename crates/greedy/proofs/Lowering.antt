-- How far the costs are lowered while a table is taken. Assumes nothing.
use Rattle.std.proofs.Common.{◌≡◌, ℕ, ◌+◌, ◌-◌, ◌<◌, ◌≤◌, List, length, get_or, set, sym, refl, ap, ◌∙◌, arith, below_more}
use Rattle.std.proofs.Math.Seq.{map-set_same}
use Rattle.std.proofs.lemmas.List.{length-map, get_or-map, map-set, get_or-set_same, get_or-set_other}
use Rattle.hierarchy.specs.Dimensions.{Dims}
use Rattle.hierarchy.specs.Levels.{nth_levels}
use Rattle.hierarchy.specs.Views.{levels_of}
use Rattle.greedy.specs.declared.by_sizes.Candidate.{Candidate}
use Rattle.greedy.specs.Candidates.{all_levels_of, sizes_of, costs_of}
use Rattle.greedy.specs.Turns.{AllLevels, fall}

-- the costs of the first q questions are lowered, and nothing else has changed
pub record Lowering (ss : Dims) (xs ys : List Candidate) (at q : ℕ) : Type 0 where
  pub levels : all_levels_of ys ≡ all_levels_of xs
  pub sizes : sizes_of ys ≡ sizes_of xs
  pub done : (j : ℕ) → j < q → get_or (costs_of ys) j 0
      ≡ get_or (costs_of xs) j 0 - fall ss (nth_levels ss at) (get_or (sizes_of xs) at 0) (nth_levels ss j) (get_or (costs_of xs) j 0)
  pub left : (j : ℕ) → q ≤ j → get_or (costs_of ys) j 0 ≡ get_or (costs_of xs) j 0

pub lowering_more : (ss : Dims) (xs ys : List Candidate) (at q : ℕ) (d : Candidate) (r : ℕ) → AllLevels ss (all_levels_of xs) → at < length xs → q < length xs
    → Lowering ss xs ys at q
    → r ≡ fall ss (levels_of (length ss) (get_or xs at d).levels) (get_or xs at d).size (levels_of (length ss) (get_or ys q d).levels) (get_or ys q d).cost
    → Lowering ss xs (set ys q (record { levels = (get_or ys q d).levels; size = (get_or ys q d).size; cost = (get_or ys q d).cost - r })) at (q + 1)
lowering_more ss xs ys at q d r a there here s is =
    let v : Candidate = record { levels = (get_or ys q d).levels; size = (get_or ys q d).size; cost = (get_or ys q d).cost - r } in
    let long : length ys ≡ length xs = sym (length-map ys (λ (x : Candidate). x.levels)) ∙ (ap length s.levels ∙ length-map xs (λ (x : Candidate). x.levels)) in
    let here' : q < length ys = omega arith in
    let costs : costs_of (set ys q v) ≡ set (costs_of ys) q v.cost = map-set (λ (x : Candidate). x.cost) ys q v in
    let wide : q < length (costs_of ys) = omega (arith, length-map ys (λ (x : Candidate). x.cost)) in
    let taken : levels_of (length ss) (get_or xs at d).levels ≡ nth_levels ss at =
    ap (levels_of (length ss)) (sym (get_or-map (λ (x : Candidate). x.levels) xs at d d.levels there)) ∙ a.each at d.levels (omega (arith, length-map xs (λ (x : Candidate). x.levels))) in
    let asked : levels_of (length ss) (get_or ys q d).levels ≡ nth_levels ss q =
    ap (levels_of (length ss)) (sym (get_or-map (λ (x : Candidate). x.levels) ys q d d.levels here') ∙ ap (λ ls. get_or ls q d.levels) s.levels)
    ∙ a.each q d.levels (omega (arith, length-map xs (λ (x : Candidate). x.levels))) in
    let size : (get_or xs at d).size ≡ get_or (sizes_of xs) at 0 = sym (get_or-map (λ (x : Candidate). x.size) xs at d 0 there) in
    let cost : (get_or ys q d).cost ≡ get_or (costs_of xs) q 0 = sym (get_or-map (λ (x : Candidate). x.cost) ys q d 0 here') ∙ s.left q (omega arith) in
    let same : (j : ℕ) → (j ≡ q → ⊥) → get_or (costs_of (set ys q v)) j 0 ≡ get_or (costs_of ys) j 0 = λ j n. rw costs (get_or-set_other (costs_of ys) q j v.cost 0 n) in
    let now : get_or (costs_of (set ys q v)) q 0 ≡ v.cost = rw costs (get_or-set_same (costs_of ys) q v.cost 0 wide) in
    let fell : r ≡ fall ss (nth_levels ss at) (get_or (sizes_of xs) at 0) (nth_levels ss q) (get_or (costs_of xs) q 0) = rw (taken, asked, size, cost) at is in
    record {
      levels = map-set_same (λ (x : Candidate). x.levels) ys q v d refl ∙ s.levels;
      sizes = map-set_same (λ (x : Candidate). x.size) ys q v d refl ∙ s.sizes;
      done = below_more (λ j. get_or (costs_of (set ys q v)) j 0
          ≡ get_or (costs_of xs) j 0 - fall ss (nth_levels ss at) (get_or (sizes_of xs) at 0) (nth_levels ss j) (get_or (costs_of xs) j 0)) q
          (λ j h. same j (λ e. omega arith) ∙ s.done j h)
          (now ∙ omega arith);
      left = λ j h. same j (λ e. omega arith) ∙ s.left j (omega arith);
    }
