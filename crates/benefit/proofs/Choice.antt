-- Why the greedy choice is good: one more table saves the less the more there are, so each turn closes a share of what is
-- still missing to any others. Assumes nothing.
use Rattle.std.proofs.Common.{◌≡◌, ℕ, zero, suc, ◌+◌, ◌-◌, ◌*◌, ◌^◌, ◌<◌, ◌≤◌, min, Bool, true, false, cond, ltb, List, [], ◌∷◌, ◌++◌, length, get_or, replicate, sum_by, refl, ap, le_trans, suc-mul, mul_comm, mul-le-mul_left, pow-suc, zero-mul, arith}
use native.Mathlib.Nat.{pow-zero, mul-sub}
use Rattle.std.proofs.lemmas.List.Sums.{sum_by-cons}
use Rattle.std.proofs.lemmas.Bool.{ltb-true, ltb-false, cond_both}
use Rattle.hierarchy.specs.Dimensions.{Dims, Row}
use Rattle.hierarchy.specs.Levels.{are_levels, no_coarser, finest, every}
use Rattle.hierarchy.proofs.Laws.{finest_are_levels}
use Rattle.hierarchy.proofs.Every.{every_there, there_every}
use Rattle.totals.specs.Cost.{cost}
use Rattle.benefit.specs.Benefit.{saved, better, best_of, best, chosen}
use Rattle.benefit.specs.Promises.{Among, AllThere, LessAndLess, ChosenWell, ChosenWellAgainst, TwoSaveThreeQuarters, ChosenThere, BestSavesMost, FinestSavesNothing}

-- ---- sums
sum_by_mono : {X : Type 0} (f g : X → ℕ) (xs : List X) → ((x : X) → f x ≤ g x) → sum_by f xs ≤ sum_by g xs
sum_by_mono f g [] h = omega arith
sum_by_mono f g (x ∷ xs) h = rw (sum_by-cons f x xs, sum_by-cons g x xs) (omega (arith, h x, sum_by_mono f g xs h))

sum_by_pairs : {X : Type 0} (a b c d : X → ℕ) (xs : List X) → ((x : X) → a x + b x ≤ c x + d x) → sum_by a xs + sum_by b xs ≤ sum_by c xs + sum_by d xs
sum_by_pairs a b c d [] h = omega arith
sum_by_pairs a b c d (x ∷ xs) h =
    rw (sum_by-cons a x xs, sum_by-cons b x xs, sum_by-cons c x xs, sum_by-cons d x xs) (omega (arith, h x, sum_by_pairs a b c d xs h))

sum_by_none : {X : Type 0} (f : X → ℕ) (xs : List X) → ((x : X) → f x ≡ 0) → sum_by f xs ≡ 0
sum_by_none f [] h = refl
sum_by_none f (x ∷ xs) h = rw (sum_by-cons f x xs, h x, sum_by_none f xs h)

-- ---- what one question costs
pub cost_none : (ss : Dims) (sz : Row → ℕ) (l : Row) → cost ss sz l [] ≡ sz (finest ss)
unfolding cost
cost_none ss sz l = refl

-- a table more is read where it is no coarser and smaller
pub cost_cons : (ss : Dims) (sz : Row → ℕ) (l k : Row) (ks : List Row)
    → cost ss sz l (k ∷ ks) ≡ cond (no_coarser ss k l) (min (sz k) (cost ss sz l ks)) (cost ss sz l ks)
unfolding cost
cost_cons ss sz l k ks = refl

cost_more : (ss : Dims) (sz : Row → ℕ) (l k : Row) (ks : List Row) → cost ss sz l (k ∷ ks) ≤ cost ss sz l ks
cost_more ss sz l k ks =
    rw (cost_cons ss sz l k ks) (cond_both (no_coarser ss k l) _ _ (λ c. c ≤ cost ss sz l ks) (λ e. omega arith) (λ e. omega arith))

pub cost_at_most : (ss : Dims) (sz : Row → ℕ) (l : Row) (ks : List Row) → cost ss sz l ks ≤ sz (finest ss)
cost_at_most ss sz l [] = rw (cost_none ss sz l) (omega arith)
cost_at_most ss sz l (k ∷ ks) = omega (arith, cost_more ss sz l k ks, cost_at_most ss sz l ks)

-- whoever has tables no worse for a question has no worse with one more; and what that one takes off is less
cost_two : (ss : Dims) (sz : Row → ℕ) (l k : Row) (ks js : List Row) → cost ss sz l js ≤ cost ss sz l ks
    → (cost ss sz l (k ∷ js) ≤ cost ss sz l (k ∷ ks))
    × (sz (finest ss) - cost ss sz l (k ∷ js) + (sz (finest ss) - cost ss sz l ks) ≤ sz (finest ss) - cost ss sz l (k ∷ ks) + (sz (finest ss) - cost ss sz l js))
cost_two ss sz l k ks js h = rw (cost_cons ss sz l k js, cost_cons ss sz l k ks) (go (no_coarser ss k l) (cost_at_most ss sz l ks))
  where
    go : (v : Bool) → cost ss sz l ks ≤ sz (finest ss)
        → (cond v (min (sz k) (cost ss sz l js)) (cost ss sz l js) ≤ cond v (min (sz k) (cost ss sz l ks)) (cost ss sz l ks))
        × (sz (finest ss) - cond v (min (sz k) (cost ss sz l js)) (cost ss sz l js) + (sz (finest ss) - cost ss sz l ks)
        ≤ sz (finest ss) - cond v (min (sz k) (cost ss sz l ks)) (cost ss sz l ks) + (sz (finest ss) - cost ss sz l js))
    go true b = (omega arith, omega arith)
    go false b = (omega arith, omega arith)

-- each table that is read costs at least the question
cost_member : (ss : Dims) (sz : Row → ℕ) (l : Row) (js : List Row) (m : ℕ) → m < length js → no_coarser ss (get_or js m []) l ≡ true
    → cost ss sz l js ≤ sz (get_or js m [])
cost_member ss sz l [] m h e = absurd (omega arith)
cost_member ss sz l (j ∷ js) zero h e = rw (cost_cons ss sz l j js, e) (omega arith)
cost_member ss sz l (j ∷ js) (suc m) h e = omega (arith, cost_more ss sz l j js, cost_member ss sz l js m (omega arith) e)

-- ---- tables that serve every question no worse
abbrev Covers : Dims → (Row → ℕ) → List Row → List Row → Type 0
Covers ss sz ks js = (l : Row) → cost ss sz l js ≤ cost ss sz l ks

among_covers : (ss : Dims) (sz : Row → ℕ) (ks js : List Row) → Among ks js → Covers ss sz ks js
among_covers ss sz [] js a l = rw (cost_none ss sz l) (cost_at_most ss sz l js)
among_covers ss sz (k ∷ ks) js a l =
    rw (cost_cons ss sz l k ks) (go (among_covers ss sz ks js (λ i h. a (suc i) (omega arith)) l) (a 0 (omega arith)) (no_coarser ss k l) refl)
  where
    go : cost ss sz l js ≤ cost ss sz l ks → (m : ℕ) × (m < length js) × (get_or js m [] ≡ k) → (v : Bool) → no_coarser ss k l ≡ v
        → cost ss sz l js ≤ cond v (min (sz k) (cost ss sz l ks)) (cost ss sz l ks)
    go more w true e = let c : cost ss sz l js ≤ sz k = rw w.2 at (cost_member ss sz l js w.0 w.1 (rw w.2 e)) in omega arith
    go more w false e = more

covers_left : (ss : Dims) (sz : Row → ℕ) (xs ys : List Row) → Covers ss sz xs (xs ++ ys)
covers_left ss sz [] ys l = rw (cost_none ss sz l) (cost_at_most ss sz l ys)
covers_left ss sz (x ∷ xs) ys l = (cost_two ss sz l x xs (xs ++ ys) (covers_left ss sz xs ys l)).0

covers_right : (ss : Dims) (sz : Row → ℕ) (xs ys : List Row) → Covers ss sz ys (xs ++ ys)
covers_right ss sz [] ys l = omega arith
covers_right ss sz (x ∷ xs) ys l = omega (arith, cost_more ss sz l x (xs ++ ys), covers_right ss sz xs ys l)

-- ---- what tables save
saves_more : (ss : Dims) (sz : Row → ℕ) (ks js : List Row) → Covers ss sz ks js → saved ss sz ks ≤ saved ss sz js
unfolding saved
saves_more ss sz ks js h =
    sum_by_mono (λ l. sz (finest ss) - cost ss sz l ks) (λ l. sz (finest ss) - cost ss sz l js) (every ss) (λ l. omega (arith, h l))

saves_less : (ss : Dims) (sz : Row → ℕ) (ks js : List Row) (k : Row) → Covers ss sz ks js
    → saved ss sz (k ∷ js) + saved ss sz ks ≤ saved ss sz (k ∷ ks) + saved ss sz js
unfolding saved
saves_less ss sz ks js k h =
    sum_by_pairs (λ l. sz (finest ss) - cost ss sz l (k ∷ js)) (λ l. sz (finest ss) - cost ss sz l ks) (λ l. sz (finest ss) - cost ss sz l (k ∷ ks))
    (λ l. sz (finest ss) - cost ss sz l js) (every ss) (λ l. (cost_two ss sz l k ks js (h l)).1)

pub less_and_less : LessAndLess
less_and_less ss sz ks js l a = let c = among_covers ss sz ks js a in (saves_more ss sz ks js c, saves_less ss sz ks js l c)

cost_finest : (ss : Dims) (sz : Row → ℕ) (l : Row) (n : ℕ) → cost ss sz l (replicate n (finest ss)) ≡ sz (finest ss)
cost_finest ss sz l zero = cost_none ss sz l
cost_finest ss sz l (suc n) =
    rw (cost_cons ss sz l (finest ss) (replicate n (finest ss)), cost_finest ss sz l n)
    (cond_both (no_coarser ss (finest ss) l) _ _ (λ c. c ≡ sz (finest ss)) (λ e. omega arith) (λ e. refl))

pub finest_saves_nothing : FinestSavesNothing
unfolding saved
finest_saves_nothing ss sz n = sum_by_none _ (every ss) (λ l. omega (arith, cost_finest ss sz l n))

-- ---- the best
better_saves : (ss : Dims) (sz : Row → ℕ) (ks : List Row) (b l : Row)
    → (saved ss sz (b ∷ ks) ≤ saved ss sz (better ss sz ks b l ∷ ks)) × (saved ss sz (l ∷ ks) ≤ saved ss sz (better ss sz ks b l ∷ ks))
better_saves ss sz ks b l =
    cond_both (ltb (saved ss sz (b ∷ ks)) (saved ss sz (l ∷ ks))) l b
    (λ x. (saved ss sz (b ∷ ks) ≤ saved ss sz (x ∷ ks)) × (saved ss sz (l ∷ ks) ≤ saved ss sz (x ∷ ks)))
    (λ e. (omega (arith, ltb-true _ _ e), omega arith)) (λ e. (omega arith, ltb-false _ _ e))

best_of_first : (ss : Dims) (sz : Row → ℕ) (ks : List Row) (b : Row) (ls : List Row) → saved ss sz (b ∷ ks) ≤ saved ss sz (best_of ss sz ks b ls ∷ ks)
unfolding best_of
best_of_first ss sz ks b [] = omega arith
best_of_first ss sz ks b (l ∷ ls) = le_trans (better_saves ss sz ks b l).0 (best_of_first ss sz ks (better ss sz ks b l) ls)

best_of_each : (ss : Dims) (sz : Row → ℕ) (ks : List Row) (b : Row) (ls : List Row) (i : ℕ) → i < length ls
    → saved ss sz (get_or ls i [] ∷ ks) ≤ saved ss sz (best_of ss sz ks b ls ∷ ks)
unfolding best_of
best_of_each ss sz ks b [] i h = absurd (omega arith)
best_of_each ss sz ks b (l ∷ ls) zero h = le_trans (better_saves ss sz ks b l).1 (best_of_first ss sz ks (better ss sz ks b l) ls)
best_of_each ss sz ks b (l ∷ ls) (suc i) h = best_of_each ss sz ks (better ss sz ks b l) ls i (omega arith)

best_of_there : (ss : Dims) (sz : Row → ℕ) (ks : List Row) (b : Row) (ls : List Row) → are_levels ss b ≡ true → AllThere ss ls
    → are_levels ss (best_of ss sz ks b ls) ≡ true
unfolding best_of
best_of_there ss sz ks b [] h a = h
best_of_there ss sz ks b (l ∷ ls) h a =
    best_of_there ss sz ks (better ss sz ks b l) ls
    (cond_both (ltb (saved ss sz (b ∷ ks)) (saved ss sz (l ∷ ks))) l b (λ x. are_levels ss x ≡ true) (λ e. a 0 (omega arith)) (λ e. h))
    (λ i k. a (suc i) (omega arith))

pub best_saves_most : BestSavesMost
unfolding best
best_saves_most ss sz ks l h =
    let w = there_every ss l h in
    rw w.2 at (best_of_each ss sz ks (finest ss) (every ss) w.0 w.1)

best_there : (ss : Dims) (sz : Row → ℕ) (ks : List Row) → are_levels ss (best ss sz ks) ≡ true
unfolding best
best_there ss sz ks = best_of_there ss sz ks (finest ss) (every ss) (finest_are_levels ss) (every_there ss)

chosen_length : (ss : Dims) (sz : Row → ℕ) (n : ℕ) → length (chosen ss sz n) ≡ n
unfolding chosen
chosen_length ss sz zero = refl
chosen_length ss sz (suc n) = ap suc (chosen_length ss sz n)

chosen_are_there : (ss : Dims) (sz : Row → ℕ) (n : ℕ) → AllThere ss (chosen ss sz n)
unfolding chosen
chosen_are_there ss sz zero i h = absurd (omega arith)
chosen_are_there ss sz (suc n) zero h = best_there ss sz (chosen ss sz n)
chosen_are_there ss sz (suc n) (suc i) h = chosen_are_there ss sz n i (omega arith)

pub chosen_there : ChosenThere
chosen_there ss sz n = (chosen_length ss sz n, chosen_are_there ss sz n)

-- ---- the share
-- the best of one turn gains at least the mean of what the others would together
gain : (ss : Dims) (sz : Row → ℕ) (g os : List Row) → AllThere ss os
    → saved ss sz (os ++ g) + length os * saved ss sz g ≤ length os * saved ss sz (best ss sz g ∷ g) + saved ss sz g
gain ss sz g [] a = omega (arith, zero-mul (saved ss sz g), zero-mul (saved ss sz (best ss sz g ∷ g)))
gain ss sz g (o ∷ os) a =
    omega (
      arith,
      gain ss sz g os (λ i h. a (suc i) (omega arith)),
      saves_less ss sz g (os ++ g) o (covers_right ss sz os g),
      best_saves_most ss sz g o (a 0 (omega arith)),
      suc-mul (length os) (saved ss sz g),
      suc-mul (length os) (saved ss sz (best ss sz g ∷ g)),
    )

-- one turn, as numbers: f what the others save, s and t before and after it, p and q the powers of m + 1 and m
turn : (m f s t p q : ℕ) → f + suc m * s ≤ suc m * t + s → p * f ≤ p * s + q * f → p * suc m * f ≤ p * suc m * t + q * m * f
turn m f s t p q g h = omega (arith, mul-le-mul_left p g, mul-le-mul_left m h)

-- what i chosen miss of what m + 1 others save shrinks with each turn by the share 1/(m + 1)
pub core : (ss : Dims) (sz : Row → ℕ) (others : List Row) (m : ℕ) → length others ≡ suc m → AllThere ss others → (i : ℕ)
    → suc m ^ i * saved ss sz others ≤ suc m ^ i * saved ss sz (chosen ss sz i) + m ^ i * saved ss sz others
unfolding chosen
core ss sz os m e a zero = rw (pow-zero m, pow-zero (suc m)) (omega arith)
core ss sz os m e a (suc i) =
    rw (pow-suc (suc m) i, pow-suc m i)
    (turn m _ (saved ss sz (chosen ss sz i)) _ (suc m ^ i) (m ^ i)
    (omega (arith, rw e at (gain ss sz (chosen ss sz i) os a), saves_more ss sz os (os ++ chosen ss sz i) (covers_left ss sz os (chosen ss sz i))))
    (core ss sz os m e a i))

pub chosen_well_against : ChosenWellAgainst
chosen_well_against ss sz i zero os p e a = absurd (omega arith)
chosen_well_against ss sz i (suc m) os p e a =
    let d : suc m - 1 ≡ m = omega arith in
    rw (d, mul_comm (suc m ^ i - m ^ i) (saved ss sz os), mul-sub (saved ss sz os) (suc m ^ i) (m ^ i))
    (omega (arith, core ss sz os m e a i))

pub chosen_well : ChosenWell
chosen_well ss sz n os p e a = chosen_well_against ss sz n n os p e a

pub two_save_three_quarters : TwoSaveThreeQuarters
two_save_three_quarters ss sz os e a = chosen_well ss sz 2 os (omega arith) e a
