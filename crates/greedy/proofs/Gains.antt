-- The choice by lists of sizes and of costs: what levels gain, and the first that gain most, are the model's. Assumes nothing.
use Rattle.std.proofs.Common.{◌≡◌, ℕ, zero, suc, ◌+◌, ◌-◌, ◌*◌, ◌<◌, ◌≤◌, min, Bool, true, false, cond, ltb, List, [], ◌∷◌, map, length, get_or, take, drop, sum_by, sum, sym, refl, ap, ◌∙◌, ⊎_elim, suc-mul, zero-mul, add-one, arith}
use Rattle.std.specs.List.{range_with_len}
use Rattle.std.proofs.lemmas.List.Sums.{sum_by-cons, sum_by_more, sum_by-drop_more, sum-map}
use Rattle.std.proofs.lemmas.List.{ext_get_or, length-map, get_or-map, take_all, drop_more, drop_all}
use Rattle.std.proofs.lemmas.List.FromFn.{length-map-range_with_len, get_or-map-range_with_len}
use Rattle.std.proofs.lemmas.Bool.{lt-ltb, le-ltb, cases_lt, cond_both}
use Rattle.hierarchy.specs.Dimensions.{Dims, Row}
use Rattle.hierarchy.specs.Levels.{no_coarser, finest, every, total_levels, nth_levels}
use Rattle.hierarchy.proofs.Every.{every_length, every_at, every_first}
use Rattle.totals.specs.Cost.{cost}
use Rattle.benefit.specs.Benefit.{saved, better, best_of, best}
use Rattle.greedy.specs.Turns.{SizesAre, fall, Lowered}
use Rattle.benefit.proofs.Choice.{cost_none, cost_cons, cost_at_most}

-- ---- by lists
-- what the i-th levels, of size s, gain in the first k questions
unfoldable pub gain_to : Dims → ℕ → ℕ → List ℕ → ℕ → ℕ
gain_to ss i s cs zero = 0
gain_to ss i s cs (suc q) = gain_to ss i s cs q + fall ss (nth_levels ss i) s (nth_levels ss q) (get_or cs q 0)

-- and in all
abbrev pub gain : Dims → List ℕ → List ℕ → ℕ → ℕ
gain ss zs cs i = gain_to ss i (get_or zs i 0) cs (length cs)

-- the first of the first k levels that gain most
unfoldable pub best_to : Dims → List ℕ → List ℕ → ℕ → ℕ
best_to ss zs cs zero = 0
best_to ss zs cs (suc k) = cond (ltb (gain ss zs cs (best_to ss zs cs k)) (gain ss zs cs k)) k (best_to ss zs cs k)

pub gain_none : (ss : Dims) (i s : ℕ) (cs : List ℕ) → gain_to ss i s cs 0 ≡ 0
unfolding gain_to
gain_none ss i s cs = refl

pub gain_more : (ss : Dims) (i s : ℕ) (cs : List ℕ) (q : ℕ)
    → gain_to ss i s cs (q + 1) ≡ gain_to ss i s cs q + fall ss (nth_levels ss i) s (nth_levels ss q) (get_or cs q 0)
unfolding gain_to
gain_more ss i s cs q = rw (add-one q)

pub fall_at_most : (ss : Dims) (l : Row) (s : ℕ) (q : Row) (c : ℕ) → fall ss l s q c ≤ c
fall_at_most ss l s q c = cond_both (no_coarser ss l q) (c - s) 0 (λ x. x ≤ c) (λ e. omega arith) (λ e. omega arith)

-- the questions left give no more than they cost
gain_rest : (ss : Dims) (i s : ℕ) (cs : List ℕ) (k m : ℕ) → k + m ≤ length cs
    → gain_to ss i s cs (k + m) + sum (drop (k + m) cs) ≤ gain_to ss i s cs k + sum (drop k cs)
gain_rest ss i s cs k zero h = let e : k + 0 ≡ k = omega arith in rw e (omega arith)
gain_rest ss i s cs k (suc m) h =
    let e : k + suc m ≡ k + m + 1 = omega arith in
    rw e (omega (
      arith,
      gain_rest ss i s cs k m (omega arith),
      gain_more ss i s cs (k + m),
      fall_at_most ss (nth_levels ss i) s (nth_levels ss (k + m)) (get_or cs (k + m) 0),
      sum_by-drop_more (λ x. x) cs (k + m) 0 (omega arith),
    ))

pub gain_bound : (ss : Dims) (i s : ℕ) (cs : List ℕ) (k : ℕ) → k ≤ length cs
    → gain_to ss i s cs (length cs) ≤ gain_to ss i s cs k + sum (drop k cs)
gain_bound ss i s cs k h =
    let e : k + (length cs - k) ≡ length cs = omega arith in
    let r = rw e at (gain_rest ss i s cs k (length cs - k) (omega arith)) in omega arith

pub gain_here : (ss : Dims) (i s : ℕ) (cs : List ℕ) (k : ℕ) → k ≤ length cs → gain_to ss i s cs k + sum (drop k cs) ≤ sum cs
gain_here ss i s cs k h =
    let e : 0 + k ≡ k = omega arith in
    let r = rw e at (gain_rest ss i s cs 0 k (omega arith)) in omega (arith, gain_none ss i s cs)

-- levels no smaller than any cost gain nothing
pub gain_large : (ss : Dims) (i s : ℕ) (cs : List ℕ) (k : ℕ) → k ≤ length cs → ((q : ℕ) → q < length cs → get_or cs q 0 ≤ s) → gain_to ss i s cs k ≡ 0
unfolding gain_to
gain_large ss i s cs zero h small = refl
gain_large ss i s cs (suc k) h small =
    let p = gain_large ss i s cs k (omega arith) small in
    let f : fall ss (nth_levels ss i) s (nth_levels ss k) (get_or cs k 0) ≡ 0 =
    cond_both (no_coarser ss (nth_levels ss i) (nth_levels ss k)) (get_or cs k 0 - s) 0 (λ x. x ≡ 0) (λ e. omega (arith, small k (omega arith))) (λ e. refl) in
    omega arith

-- what the costs lose is what is gained
gain_lowered : (ss : Dims) (i s : ℕ) (cs ds : List ℕ) → Lowered ss i s cs ds → (k : ℕ) → k ≤ length cs
    → sum (take k ds) + gain_to ss i s cs k ≡ sum (take k cs)
gain_lowered ss i s cs ds h zero l = omega (arith, gain_none ss i s cs)
gain_lowered ss i s cs ds h (suc k) l =
    rw (← add-one k)
    (omega (
      arith,
      gain_lowered ss i s cs ds h k (omega arith),
      gain_more ss i s cs k,
      h.1 k (omega arith),
      fall_at_most ss (nth_levels ss i) s (nth_levels ss k) (get_or cs k 0),
      sum_by_more (λ x. x) cs k 0 (omega arith),
      sum_by_more (λ x. x) ds k 0 (omega (arith, h.0)),
    ))

pub sum_lowered : (ss : Dims) (i s : ℕ) (cs ds : List ℕ) → Lowered ss i s cs ds → sum ds + gain_to ss i s cs (length cs) ≡ sum cs
sum_lowered ss i s cs ds h =
    let a : take (length cs) cs ≡ cs = take_all (length cs) cs (omega arith) in
    let b : take (length cs) ds ≡ ds = take_all (length cs) ds (omega (arith, h.0)) in
    rw (a, b) at (gain_lowered ss i s cs ds h (length cs) (omega arith))

-- the lowered costs as a list
lowered : Dims → ℕ → ℕ → List ℕ → List ℕ
lowered ss i s cs = map (λ q. get_or cs q 0 - fall ss (nth_levels ss i) s (nth_levels ss q) (get_or cs q 0)) (range_with_len 0 (length cs))

lowered_is : (ss : Dims) (i s : ℕ) (cs : List ℕ) → Lowered ss i s cs (lowered ss i s cs)
unfolding lowered
lowered_is ss i s cs = (
  length-map-range_with_len (λ q. get_or cs q 0 - fall ss (nth_levels ss i) s (nth_levels ss q) (get_or cs q 0)) 0 (length cs),
  λ q h. get_or-map-range_with_len (λ q. get_or cs q 0 - fall ss (nth_levels ss i) s (nth_levels ss q) (get_or cs q 0)) 0 (length cs) q q 0 h (omega arith),
)

-- ---- the model
-- the costs of all questions, where tables at levels ks are kept
abbrev pub CostsAre : Dims → (Row → ℕ) → List Row → List ℕ → Type 0
CostsAre ss sz ks cs = (length cs ≡ total_levels ss) × ((q : ℕ) → q < total_levels ss → get_or cs q 0 ≡ cost ss sz (nth_levels ss q) ks)

pub first_levels : (ss : Dims) → 0 < total_levels ss → nth_levels ss 0 ≡ finest ss
first_levels ss h = sym (every_at ss 0 h) ∙ every_first ss

-- with the size of the finest for every question, none are kept
pub costs_none : (ss : Dims) (sz : Row → ℕ) (zs cs : List ℕ) → SizesAre ss sz zs → 0 < total_levels ss → length cs ≡ total_levels ss
    → ((q : ℕ) → q < length cs → get_or cs q 0 ≡ get_or zs 0 0) → CostsAre ss sz [] cs
costs_none ss sz zs cs a h l e =
    (l, λ q b. e q (omega arith) ∙ (sym (a 0 h) ∙ (ap sz (first_levels ss h) ∙ sym (cost_none ss sz (nth_levels ss q)))))

-- one table more
cost_falls : (ss : Dims) (sz : Row → ℕ) (l k : Row) (ks : List Row) → cost ss sz l (k ∷ ks) ≡ cost ss sz l ks - fall ss k (sz k) l (cost ss sz l ks)
cost_falls ss sz l k ks = cost_cons ss sz l k ks ∙ go (no_coarser ss k l)
  where
    go : (v : Bool) → cond v (min (sz k) (cost ss sz l ks)) (cost ss sz l ks) ≡ cost ss sz l ks - cond v (cost ss sz l ks - sz k) 0
    go true = omega arith
    go false = omega arith

pub costs_lowered : (ss : Dims) (sz : Row → ℕ) (zs : List ℕ) (ks : List Row) (i : ℕ) (cs ds : List ℕ) → SizesAre ss sz zs → i < total_levels ss
    → CostsAre ss sz ks cs → Lowered ss i (get_or zs i 0) cs ds → CostsAre ss sz (nth_levels ss i ∷ ks) ds
costs_lowered ss sz zs ks i cs ds a b r h = (
  h.0 ∙ r.0,
  λ q l. let e = r.1 q l in let s = a i b in
      h.1 q (omega (arith, r.0)) ∙ (rw (e, ← s) (sym (cost_falls ss sz (nth_levels ss q) (nth_levels ss i) ks))),
)

-- what is saved and what is paid make up the finest table's size for every question
sum_rest : {X : Type 0} (f : X → ℕ) (m : ℕ) (xs : List X) → ((x : X) → f x ≤ m) → sum_by (λ x. m - f x) xs + sum_by f xs ≡ length xs * m
sum_rest f m [] h = sym (zero-mul m)
sum_rest f m (x ∷ xs) h =
    rw (sum_by-cons (λ x. m - f x) x xs, sum_by-cons f x xs) (omega (arith, h x, sum_rest f m xs h, suc-mul (length xs) m))

costs_map : (ss : Dims) (sz : Row → ℕ) (ks : List Row) (cs : List ℕ) → CostsAre ss sz ks cs → cs ≡ map (λ l. cost ss sz l ks) (every ss)
costs_map ss sz ks cs r =
    ext_get_or 0 cs (map (λ l. cost ss sz l ks) (every ss)) (r.0 ∙ sym (length-map (every ss) (λ l. cost ss sz l ks) ∙ every_length ss))
    (λ q h. let b : q < total_levels ss = omega (arith, r.0) in
    r.1 q b ∙ sym (get_or-map (λ l. cost ss sz l ks) (every ss) q [] 0 (omega (arith, every_length ss)) ∙ ap (λ l. cost ss sz l ks) (every_at ss q b)))

pub saved_is : (ss : Dims) (sz : Row → ℕ) (ks : List Row) (cs : List ℕ) → CostsAre ss sz ks cs
    → saved ss sz ks + sum cs ≡ total_levels ss * sz (finest ss)
unfolding saved
saved_is ss sz ks cs r =
    let e : sum cs ≡ sum_by (λ l. cost ss sz l ks) (every ss) = ap sum (costs_map ss sz ks cs r) ∙ sum-map (λ l. cost ss sz l ks) (every ss) in
    rw (e, ← every_length ss) (sum_rest (λ l. cost ss sz l ks) (sz (finest ss)) (every ss) (λ l. cost_at_most ss sz l ks))

pub saved_gain : (ss : Dims) (sz : Row → ℕ) (zs : List ℕ) (ks : List Row) (cs : List ℕ) (i : ℕ) → SizesAre ss sz zs → CostsAre ss sz ks cs
    → i < total_levels ss → saved ss sz (nth_levels ss i ∷ ks) ≡ saved ss sz ks + gain ss zs cs i
saved_gain ss sz zs ks cs i a r b =
    let d = lowered_is ss i (get_or zs i 0) cs in
    omega (
      arith,
      saved_is ss sz ks cs r,
      saved_is ss sz (nth_levels ss i ∷ ks) (lowered ss i (get_or zs i 0) cs) (costs_lowered ss sz zs ks i cs _ a b r d),
      sum_lowered ss i (get_or zs i 0) cs (lowered ss i (get_or zs i 0) cs) d,
    )

-- ---- the first that gain most
ltb_add : (a b c : ℕ) → ltb (a + b) (a + c) ≡ ltb b c
ltb_add a b c = ⊎_elim (λ h. lt-ltb (a + b) (a + c) (omega arith) ∙ sym (lt-ltb b c h)) (λ h. le-ltb (a + b) (a + c) (omega arith) ∙ sym (le-ltb b c h)) (cases_lt b c)

cond_nth : (ss : Dims) (v : Bool) (k b : ℕ) → cond v (nth_levels ss k) (nth_levels ss b) ≡ nth_levels ss (cond v k b)
cond_nth ss true k b = refl
cond_nth ss false k b = refl

pub best_none : (ss : Dims) (zs cs : List ℕ) → best_to ss zs cs 0 ≡ 0
unfolding best_to
best_none ss zs cs = refl

pub best_keeps : (ss : Dims) (zs cs : List ℕ) (k : ℕ) → gain ss zs cs k ≤ gain ss zs cs (best_to ss zs cs k) → best_to ss zs cs (k + 1) ≡ best_to ss zs cs k
unfolding best_to
best_keeps ss zs cs k h = rw (add-one k, le-ltb (gain ss zs cs (best_to ss zs cs k)) (gain ss zs cs k) h)

pub best_takes : (ss : Dims) (zs cs : List ℕ) (k : ℕ) → gain ss zs cs (best_to ss zs cs k) < gain ss zs cs k → best_to ss zs cs (k + 1) ≡ k
unfolding best_to
best_takes ss zs cs k h = rw (add-one k, lt-ltb (gain ss zs cs (best_to ss zs cs k)) (gain ss zs cs k) h)

pub best_below : (ss : Dims) (zs cs : List ℕ) (n k : ℕ) → 0 < n → k ≤ n → best_to ss zs cs k < n
unfolding best_to
best_below ss zs cs n zero p h = p
best_below ss zs cs n (suc k) p h =
    cond_both (ltb (gain ss zs cs (best_to ss zs cs k)) (gain ss zs cs k)) k (best_to ss zs cs k) (λ x. x < n)
    (λ e. omega arith) (λ e. best_below ss zs cs n k p (omega arith))

best_of_cons : (ss : Dims) (sz : Row → ℕ) (ks : List Row) (b l : Row) (ls : List Row) → best_of ss sz ks b (l ∷ ls) ≡ best_of ss sz ks (better ss sz ks b l) ls
unfolding best_of
best_of_cons ss sz ks b l ls = refl

-- one step of the model's scan
best_step : (ss : Dims) (sz : Row → ℕ) (zs : List ℕ) (ks : List Row) (cs : List ℕ) → SizesAre ss sz zs → CostsAre ss sz ks cs → (b k : ℕ)
    → b < total_levels ss → k < total_levels ss
    → best_of ss sz ks (nth_levels ss (cond (ltb (gain ss zs cs b) (gain ss zs cs k)) k b)) (drop (k + 1) (every ss))
    ≡ best_of ss sz ks (nth_levels ss b) (drop k (every ss))
best_step ss sz zs ks cs a r b k l h =
    let e : drop k (every ss) ≡ nth_levels ss k ∷ drop (k + 1) (every ss) =
    drop_more (every ss) k [] (omega (arith, every_length ss)) ∙ ap (λ x. x ∷ drop (k + 1) (every ss)) (every_at ss k h) in
    rw (
      e,
      best_of_cons ss sz ks (nth_levels ss b) (nth_levels ss k) (drop (k + 1) (every ss)),
      saved_gain ss sz zs ks cs b a r l,
      saved_gain ss sz zs ks cs k a r h,
      ltb_add (saved ss sz ks) (gain ss zs cs b) (gain ss zs cs k),
      cond_nth ss (ltb (gain ss zs cs b) (gain ss zs cs k)) k b,
    )

-- the model's scan, from the k-th levels on
best_scan : (ss : Dims) (sz : Row → ℕ) (zs : List ℕ) (ks : List Row) (cs : List ℕ) → SizesAre ss sz zs → CostsAre ss sz ks cs → 0 < total_levels ss
    → (k : ℕ) → k ≤ total_levels ss → best_of ss sz ks (nth_levels ss (best_to ss zs cs k)) (drop k (every ss)) ≡ best ss sz ks
unfolding best best_to
best_scan ss sz zs ks cs a r p zero h = rw (first_levels ss p)
best_scan ss sz zs ks cs a r p (suc k) h =
    rw (add-one k) at (best_step ss sz zs ks cs a r (best_to ss zs cs k) k (best_below ss zs cs (total_levels ss) k p (omega arith)) (omega arith))
    ∙ best_scan ss sz zs ks cs a r p k (omega arith)

pub best_is : (ss : Dims) (sz : Row → ℕ) (zs : List ℕ) (ks : List Row) (cs : List ℕ) → SizesAre ss sz zs → CostsAre ss sz ks cs → 0 < total_levels ss
    → nth_levels ss (best_to ss zs cs (total_levels ss)) ≡ best ss sz ks
unfolding best_of
best_is ss sz zs ks cs a r p =
    let e : drop (total_levels ss) (every ss) ≡ [] = drop_all (total_levels ss) (every ss) (omega (arith, every_length ss)) in
    rw e at (best_scan ss sz zs ks cs a r p (total_levels ss) (omega arith))
