-- How the choice stands between two turns, within one, and within one row of levels. Assumes nothing.
use Rattle.std.proofs.Common.{◌≡◌, ℕ, zero, suc, ◌+◌, ◌-◌, ◌*◌, ◌^◌, ◌<◌, ◌≤◌, List, [], ◌∷◌, ◌++◌, length, get_or, drop, replicate, sum, sym, refl, ap, ◌∙◌, suc-mul, mul_comm, mul-le-mul_left, zero-mul, add-one, arith, below_more}
use Rattle.std.proofs.lemmas.List.{length-map, get_or-map, length_push, get_or_push, get_or_append_left, length-replicate, get_or-replicate}
use Rattle.std.proofs.lemmas.List.Sums.{sum_by-cons, sum_by-drop_more}
use Rattle.hierarchy.specs.Dimensions.{Dims, Row}
use Rattle.hierarchy.specs.Levels.{finest, total_levels, nth_levels}
use Rattle.hierarchy.specs.Views.{levels_of}
use Rattle.hierarchy.specs.declared.levels.Levels.{Levels}
use Rattle.benefit.specs.Benefit.{saved, best, chosen}
use Rattle.greedy.specs.Candidates.{all_levels_of, sizes_of, costs_of}
use Rattle.greedy.specs.declared.by_sizes.Candidate.{Candidate}
use Rattle.greedy.specs.Turns.{SizesAre, TurnsAre, AllLevels, fall, Lowered, Counted}
use Rattle.greedy.specs.declared.turn.Turn.{Turn}
use Rattle.greedy.proofs.Gains.{gain_to, gain, best_to, CostsAre, gain_none, gain_more, gain_bound, gain_here, gain_large, best_keeps, best_takes, sum_lowered, costs_none, costs_lowered, saved_is, best_none, best_below, best_is, first_levels}

-- after t turns: what each question costs, what is saved, and what was taken, by any sizes that the list has
pub record Standing (ss : Dims) (n : ℕ) (zs cs : List ℕ) (saves : ℕ) (ts : List Turn) (t : ℕ) : Type 0 where
  pub long : length cs ≡ n
  pub small : (q : ℕ) → q < n → get_or cs q 0 ≤ get_or zs 0 0
  pub paid : saves + sum cs ≡ n * get_or zs 0 0
  pub told : length ts ≡ t
  pub model : (sz : Row → ℕ) → SizesAre ss sz zs → CostsAre ss sz (chosen ss sz t) cs × TurnsAre ss sz ts

-- in a turn, after the first k levels: the first that gain most, and how much that is
abbrev pub Leading : Dims → List ℕ → List ℕ → ℕ → ℕ → ℕ → Type 0
Leading ss zs cs k b most = (b ≡ best_to ss zs cs k) × (most ≡ gain ss zs cs b)

-- at the i-th levels, after the first q questions: what they gained, and what the questions left cost
abbrev pub Asking : Dims → List ℕ → List ℕ → ℕ → ℕ → ℕ → ℕ → Type 0
Asking ss zs cs i q gained left = (gained ≡ gain_to ss i (get_or zs i 0) cs q) × (left ≡ sum (drop q cs))

-- ---- bounds
product_fits : (n z : ℕ) → n ≤ 1296 → z < 2 ^ 32 → n * z < 2 ^ 44
product_fits n z a b = omega (arith, mul_comm n z, mul-le-mul_left z a)

pub bounded : (ss : Dims) (ls : List Levels) (zs cs : List ℕ) (saves : ℕ) (ts : List Turn) (t : ℕ) → AllLevels ss ls → Counted (length ls) zs
    → Standing ss (length ls) zs cs saves ts t → saves + sum cs < 2 ^ 44
bounded ss ls zs cs saves ts t a c s = omega (arith, s.paid, product_fits (length ls) (get_or zs 0 0) a.few (c.1 0 a.some))

-- ---- the start
sum_replicate : (n z : ℕ) → sum (replicate n z) ≡ n * z
sum_replicate zero z = sym (zero-mul z)
sum_replicate (suc n) z = rw (sum_by-cons (λ x. x) z (replicate n z)) (omega (arith, sum_replicate n z, suc-mul n z))

pub standing_none : (ss : Dims) (ls : List Levels) (zs : List ℕ) → AllLevels ss ls
    → Standing ss (length ls) zs (replicate (length ls) (get_or zs 0 0)) 0 [] 0
unfolding chosen
standing_none ss ls zs a =
    record {
      long = length-replicate (length ls) (get_or zs 0 0);
      small = λ q h. omega (arith, get_or-replicate (length ls) q (get_or zs 0 0) 0 h);
      paid = omega (arith, sum_replicate (length ls) (get_or zs 0 0));
      told = refl;
      model = λ sz e. (
        costs_none ss sz zs (replicate (length ls) (get_or zs 0 0)) e (omega (arith, a.long, a.some))
            (length-replicate (length ls) (get_or zs 0 0) ∙ a.long)
            (λ q h. get_or-replicate (length ls) q (get_or zs 0 0) 0 (omega (arith, length-replicate (length ls) (get_or zs 0 0)))),
        λ i d h. absurd (omega arith),
      );
    }

-- ---- one turn
turn_told : (ss : Dims) (sz : Row → ℕ) (ts : List Turn) (x : Turn) (t : ℕ) → length ts ≡ t → TurnsAre ss sz ts
    → chosen ss sz (suc t) ≡ levels_of (length ss) x.levels ∷ chosen ss sz t → x.saves ≡ saved ss sz (chosen ss sz (suc t))
    → TurnsAre ss sz (ts ++ x ∷ [])
turn_told ss sz ts x t l told e s i d h =
    below_more (λ j. (chosen ss sz (suc j) ≡ levels_of (length ss) (get_or (ts ++ x ∷ []) j d).levels ∷ chosen ss sz j)
    × ((get_or (ts ++ x ∷ []) j d).saves ≡ saved ss sz (chosen ss sz (suc j)))) t
    (λ j b. rw (get_or_append_left ts (x ∷ []) d j (omega arith)) (told j d (omega arith)))
    (rw (get_or_push ts x d t l) (e, s)) i (omega (arith, length_push ts x))

chosen_more : (ss : Dims) (sz : Row → ℕ) (t : ℕ) → chosen ss sz (suc t) ≡ best ss sz (chosen ss sz t) ∷ chosen ss sz t
unfolding chosen
chosen_more ss sz t = refl

turn_model : (ss : Dims) (zs cs ds : List ℕ) (saves b : ℕ) (ts : List Turn) (x : Turn) (t : ℕ) → b < total_levels ss
    → Lowered ss b (get_or zs b 0) cs ds → length ts ≡ t → saves + sum ds ≡ total_levels ss * get_or zs 0 0
    → levels_of (length ss) x.levels ≡ nth_levels ss b → x.saves ≡ saves
    → (sz : Row → ℕ) → SizesAre ss sz zs → CostsAre ss sz (chosen ss sz t) cs × TurnsAre ss sz ts → nth_levels ss b ≡ best ss sz (chosen ss sz t)
    → CostsAre ss sz (chosen ss sz (suc t)) ds × TurnsAre ss sz (ts ++ x ∷ [])
turn_model ss zs cs ds saves b ts x t below low told paid e v sz z m taken =
    let now : chosen ss sz (suc t) ≡ nth_levels ss b ∷ chosen ss sz t = chosen_more ss sz t ∙ ap (λ l. l ∷ chosen ss sz t) (sym taken) in
    let costs : CostsAre ss sz (chosen ss sz (suc t)) ds = rw now (costs_lowered ss sz zs (chosen ss sz t) b cs ds z below m.0 low) in
    let finest-size : sz (finest ss) ≡ get_or zs 0 0 = ap sz (sym (first_levels ss (omega arith))) ∙ z 0 (omega arith) in
    let all : saved ss sz (chosen ss sz (suc t)) + sum ds ≡ total_levels ss * get_or zs 0 0 = rw finest-size at (saved_is ss sz (chosen ss sz (suc t)) ds costs) in
    (costs, turn_told ss sz ts x t told m.1 (rw e now) (omega arith))

pub standing_more : (ss : Dims) (ls : List Levels) (zs cs ds : List ℕ) (saves k b most : ℕ) (ts us : List Turn) (x : Turn) (t : ℕ) → AllLevels ss ls
    → Standing ss (length ls) zs cs saves ts t → Leading ss zs cs k b most → k ≡ length ls → Lowered ss b (get_or zs b 0) cs ds → us ≡ ts ++ x ∷ []
    → levels_of (length ss) x.levels ≡ nth_levels ss b → x.saves ≡ saves + most
    → Standing ss (length ls) zs ds (saves + most) us (t + 1)
standing_more ss ls zs cs ds saves k b most ts us x t a s lead whole low p e v =
    let below : b < length ls = rw lead.0 (best_below ss zs cs (length ls) k a.some (omega arith)) in
    let lost = sum_lowered ss b (get_or zs b 0) cs ds low in
    let paid : saves + most + sum ds ≡ length ls * get_or zs 0 0 = omega (arith, s.paid, lead.1) in
    let paid' : saves + most + sum ds ≡ total_levels ss * get_or zs 0 0 = rw a.long at paid in
    let best-taken : (sz : Row → ℕ) → SizesAre ss sz zs → nth_levels ss b ≡ best ss sz (chosen ss sz t) =
    λ sz z. ap (nth_levels ss) (lead.0 ∙ ap (best_to ss zs cs) (whole ∙ a.long)) ∙ best_is ss sz zs (chosen ss sz t) cs z (s.model sz z).0 (omega (arith, a.long)) in
    record {
      long = low.0 ∙ s.long;
      small = λ q h. omega (arith, s.small q h, low.1 q (omega (arith, s.long)));
      paid = paid;
      told = ap length p ∙ (length_push ts x ∙ ap (λ n. n + 1) s.told);
      model = λ sz z. rw (add-one t, p) (turn_model ss zs cs ds (saves + most) b ts x t (omega (arith, a.long)) low s.told paid' e v sz z (s.model sz z) (best-taken sz z));
    }

-- ---- one row of levels
pub asked_none : (ss : Dims) (zs cs : List ℕ) (i left : ℕ) → left ≡ sum cs → Asking ss zs cs i 0 0 left
asked_none ss zs cs i left e = (sym (gain_none ss i (get_or zs i 0) cs), e)

pub asked_fits : (ss : Dims) (zs cs : List ℕ) (i q gained left : ℕ) → Asking ss zs cs i q gained left → q ≤ length cs → gained + left ≤ sum cs
asked_fits ss zs cs i q gained left a h = omega (arith, a.0, a.1, gain_here ss i (get_or zs i 0) cs q h)

pub asked_left : (ss : Dims) (zs cs : List ℕ) (i q gained left : ℕ) → Asking ss zs cs i q gained left → q < length cs → get_or cs q 0 ≤ left
asked_left ss zs cs i q gained left a h = omega (arith, a.1, sum_by-drop_more (λ x. x) cs q 0 h)

pub asked_more : (ss : Dims) (ls : List Levels) (zs cs : List ℕ) (i q gained left r : ℕ) (d e : Levels) → AllLevels ss ls → i < length ls → q < length ls
    → q < length cs → Asking ss zs cs i q gained left
    → r ≡ fall ss (levels_of (length ss) (get_or ls i d)) (get_or zs i 0) (levels_of (length ss) (get_or ls q e)) (get_or cs q 0)
    → Asking ss zs cs i (q + 1) (gained + r) (left - get_or cs q 0)
asked_more ss ls zs cs i q gained left r d e a hi hq h ask f =
    let f' = rw (a.each i d hi, a.each q e hq) at f in
    (omega (arith, ask.0, gain_more ss i (get_or zs i 0) cs q), omega (arith, ask.1, sum_by-drop_more (λ x. x) cs q 0 h))

pub leading_none : (ss : Dims) (zs cs : List ℕ) → ((q : ℕ) → q < length cs → get_or cs q 0 ≤ get_or zs 0 0) → Leading ss zs cs 0 0 0
leading_none ss zs cs small = (sym (best_none ss zs cs), sym (gain_large ss 0 (get_or zs 0 0) cs (length cs) (omega arith) small))

-- levels that gain no more leave the best as it is
leading_keeps : (ss : Dims) (zs cs : List ℕ) (k b most : ℕ) → Leading ss zs cs k b most → gain ss zs cs k ≤ most → Leading ss zs cs (k + 1) b most
leading_keeps ss zs cs k b most lead h =
    (lead.0 ∙ sym (best_keeps ss zs cs k (omega (arith, lead.1, ap (gain ss zs cs) lead.0))), lead.1)

pub leading_skip : (ss : Dims) (zs cs : List ℕ) (k b most q gained left : ℕ) → Leading ss zs cs k b most → Asking ss zs cs k q gained left
    → q ≤ length cs → gained + left ≤ most → Leading ss zs cs (k + 1) b most
leading_skip ss zs cs k b most q gained left lead ask h le =
    leading_keeps ss zs cs k b most lead (omega (arith, ask.0, ask.1, gain_bound ss k (get_or zs k 0) cs q h))

asked_all : (ss : Dims) (zs cs : List ℕ) (k q gained left : ℕ) → Asking ss zs cs k q gained left → q ≡ length cs → gained ≡ gain ss zs cs k
asked_all ss zs cs k q gained left ask e = rw e at ask.0

pub leading_stays : (ss : Dims) (zs cs : List ℕ) (k b most q gained left : ℕ) → Leading ss zs cs k b most → Asking ss zs cs k q gained left
    → q ≡ length cs → gained ≤ most → Leading ss zs cs (k + 1) b most
leading_stays ss zs cs k b most q gained left lead ask e le = leading_keeps ss zs cs k b most lead (omega (arith, asked_all ss zs cs k q gained left ask e))

pub leading_takes : (ss : Dims) (zs cs : List ℕ) (k b most q gained left : ℕ) → Leading ss zs cs k b most → Asking ss zs cs k q gained left
    → q ≡ length cs → most < gained → Leading ss zs cs (k + 1) k gained
leading_takes ss zs cs k b most q gained left lead ask e lt =
    let g = asked_all ss zs cs k q gained left ask e in
    (sym (best_takes ss zs cs k (omega (arith, lead.1, ap (gain ss zs cs) lead.0))), g)

pub leading_below : (ss : Dims) (zs cs : List ℕ) (n k b most : ℕ) → Leading ss zs cs k b most → 0 < n → k ≤ n → b < n
leading_below ss zs cs n k b most lead p h = rw lead.0 (best_below ss zs cs n k p h)

pub leading_fits : (ss : Dims) (zs cs : List ℕ) (k b most : ℕ) → Leading ss zs cs k b most → most ≤ sum cs
leading_fits ss zs cs k b most lead = omega (arith, lead.1, gain_here ss b (get_or zs b 0) cs (length cs) (omega arith))

-- ---- by candidates: what is carried from turn to turn
pub record Between (ss : Dims) (xs : List Candidate) (zs : List ℕ) (saves : ℕ) (ts : List Turn) (t : ℕ) : Type 0 where
  pub all : AllLevels ss (all_levels_of xs)
  pub sizes : sizes_of xs ≡ zs
  pub counted : Counted (length (all_levels_of xs)) (sizes_of xs)
  pub standing : Standing ss (length (all_levels_of xs)) (sizes_of xs) (costs_of xs) saves ts t
  pub many : length (all_levels_of xs) ≡ length xs
  pub long : length (costs_of xs) ≡ length xs

pub between_none : (ss : Dims) (xs : List Candidate) → AllLevels ss (all_levels_of xs) → Counted (length xs) (sizes_of xs)
    → costs_of xs ≡ replicate (length xs) (get_or (sizes_of xs) 0 0) → Between ss xs (sizes_of xs) 0 [] 0
between_none ss xs a c start =
    let many : length (all_levels_of xs) ≡ length xs = length-map xs (λ (x : Candidate). x.levels) in
    record {
      all = a;
      sizes = refl;
      counted = rw many c;
      standing = rw (start, ← many) (standing_none ss (all_levels_of xs) (sizes_of xs) a);
      many = many;
      long = length-map xs (λ (x : Candidate). x.cost);
    }

pub between_more : (ss : Dims) (xs ys : List Candidate) (zs : List ℕ) (saves k b most : ℕ) (ts us : List Turn) (x : Turn) (t : ℕ) (d : Candidate)
    → Between ss xs zs saves ts t → Leading ss (sizes_of xs) (costs_of xs) k b most → k ≡ length xs
    → all_levels_of ys ≡ all_levels_of xs → sizes_of ys ≡ sizes_of xs → Lowered ss b (get_or (sizes_of xs) b 0) (costs_of xs) (costs_of ys)
    → us ≡ ts ++ x ∷ [] → x.levels ≡ (get_or ys b d).levels → x.saves ≡ saves + most → Between ss ys zs (saves + most) us (t + 1)
between_more ss xs ys zs saves k b most ts us x t d s lead whole same-levels same-sizes low p taken saved =
    let many : length (all_levels_of ys) ≡ length ys = length-map ys (λ (x : Candidate). x.levels) in
    let all : AllLevels ss (all_levels_of ys) = rw same-levels s.all in
    let below : b < length (all_levels_of xs) = leading_below ss (sizes_of xs) (costs_of xs) (length (all_levels_of xs)) k b most lead s.all.some (omega (arith, s.many)) in
    let below' : b < length ys = omega (arith, ap length same-levels) in
    let e : levels_of (length ss) x.levels ≡ nth_levels ss b =
    ap (levels_of (length ss)) (taken ∙ sym (get_or-map (λ (x : Candidate). x.levels) ys b d d.levels below')) ∙ all.each b d.levels (omega arith) in
    record {
      all = all;
      sizes = same-sizes ∙ s.sizes;
      counted = rw (same-levels, same-sizes) s.counted;
      standing = rw (same-levels, same-sizes)
          (standing_more ss (all_levels_of xs) (sizes_of xs) (costs_of xs) (costs_of ys) saves k b most ts us x t s.all s.standing lead (omega (arith, s.many)) low p e saved);
      many = many;
      long = length-map ys (λ (x : Candidate). x.cost);
    }

pub between_bounded : (ss : Dims) (xs : List Candidate) (zs : List ℕ) (saves : ℕ) (ts : List Turn) (t : ℕ) → Between ss xs zs saves ts t
    → saves + sum (costs_of xs) < 2 ^ 44
between_bounded ss xs zs saves ts t s = bounded ss (all_levels_of xs) (sizes_of xs) (costs_of xs) saves ts t s.all s.counted s.standing

pub asked_pays : (ss : Dims) (xs : List Candidate) (i q gained left : ℕ) (e : Candidate) → q < length xs → Asking ss (sizes_of xs) (costs_of xs) i q gained left
    → (get_or xs q e).cost ≤ left
asked_pays ss xs i q gained left e h ask =
    rw (← get_or-map (λ (x : Candidate). x.cost) xs q e 0 h)
    (asked_left ss (sizes_of xs) (costs_of xs) i q gained left ask (omega (arith, length-map xs (λ (x : Candidate). x.cost))))

pub asked_next : (ss : Dims) (xs : List Candidate) (i q gained left r : ℕ) (d e : Candidate) → AllLevels ss (all_levels_of xs) → i < length xs → q < length xs
    → Asking ss (sizes_of xs) (costs_of xs) i q gained left
    → r ≡ fall ss (levels_of (length ss) (get_or xs i d).levels) (get_or xs i d).size (levels_of (length ss) (get_or xs q e).levels) (get_or xs q e).cost
    → Asking ss (sizes_of xs) (costs_of xs) i (q + 1) (gained + r) (left - (get_or xs q e).cost)
asked_next ss xs i q gained left r d e a hi hq ask f =
    let many : length (all_levels_of xs) ≡ length xs = length-map xs (λ (x : Candidate). x.levels) in
    let long : length (costs_of xs) ≡ length xs = length-map xs (λ (x : Candidate). x.cost) in
    let taken : get_or (all_levels_of xs) i d.levels ≡ (get_or xs i d).levels = get_or-map (λ (x : Candidate). x.levels) xs i d d.levels hi in
    let size : get_or (sizes_of xs) i 0 ≡ (get_or xs i d).size = get_or-map (λ (x : Candidate). x.size) xs i d 0 hi in
    let asked : get_or (all_levels_of xs) q e.levels ≡ (get_or xs q e).levels = get_or-map (λ (x : Candidate). x.levels) xs q e e.levels hq in
    let cost : get_or (costs_of xs) q 0 ≡ (get_or xs q e).cost = get_or-map (λ (x : Candidate). x.cost) xs q e 0 hq in
    let f' : r ≡ fall ss (levels_of (length ss) (get_or (all_levels_of xs) i d.levels)) (get_or (sizes_of xs) i 0)
    (levels_of (length ss) (get_or (all_levels_of xs) q e.levels)) (get_or (costs_of xs) q 0) =
    rw (taken, size, asked, cost) f in
    rw (← cost) (asked_more ss (all_levels_of xs) (sizes_of xs) (costs_of xs) i q gained left r d.levels e.levels a (omega arith) (omega arith) (omega arith) ask f')
