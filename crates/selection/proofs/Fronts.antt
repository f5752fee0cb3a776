-- One row rolled up for all levels of the last dimension: in their order only that dimension gets coarser until it starts again.
-- Assumes nothing.
use Rattle.std.proofs.Common.{◌≡◌, ℕ, zero, suc, ◌+◌, ◌-◌, ◌*◌, ◌/◌, ◌%◌, ◌<◌, ◌≤◌, true, List, [], ◌∷◌, length, get_or, take, drop, sym, refl, ap, ◌∙◌, subst, mod-lt, div-add-mod', div-one, arith, length-take}
use lib.Arith.{digits_div, digits_mod}
use Rattle.std.proofs.lemmas.List.{get_or-take}
use Rattle.std.proofs.lemmas.Bool.{le-leb, and_from}
use Rattle.hierarchy.specs.Dimensions.{Factors, Dims}
use Rattle.hierarchy.specs.Levels.{no_coarser, finest, total_levels, nth_levels}
use Rattle.hierarchy.specs.Views.{levels_of}
use Rattle.hierarchy.specs.declared.levels.Levels.{Levels}
use Rattle.hierarchy.proofs.Every.{every_length, there_every}
use Rattle.hierarchy.proofs.Laws.{finest_are_levels, no_coarser_refl, no_coarser_trans, no_coarser_length, no_coarser_finest}
use Rattle.totals.specs.Counts.{total}
use Rattle.totals.specs.Tables.{rolled}
use Rattle.summary.specs.Memory.{start, levels_in, table_in, row_over, rolled_in, Sound}
use Rattle.summary.proofs.Holdings.{levels_row, table_row}
use Rattle.totals.proofs.Put.{total_rolled}
use Rattle.summary.proofs.Rolls.{wide_rolled}
use Rattle.summary.proofs.Soundness.{wide_table}
use Rattle.totals.proofs.Theory.{rolled_twice}
use Rattle.selection.specs.Rolling.{Front}
use Rattle.greedy.proofs.Gains.{first_levels}
use Rattle.greedy.proofs.Listed.{nth_length}

some_levels : (ss : Dims) → 0 < total_levels ss
some_levels ss = omega (arith, (there_every ss (finest ss) (finest_are_levels ss)).1, every_length ss)

finest_zero : (ss : Dims) (i : ℕ) → get_or (finest ss) i 0 ≡ 0
unfolding finest
finest_zero [] i = refl
finest_zero (fs ∷ ss) zero = refl
finest_zero (fs ∷ ss) (suc i) = finest_zero ss i

-- the number before one that is no multiple has the same quotient
before_quotient : (t j m : ℕ) → 0 < t → suc j % t ≡ suc m → (j / t ≡ suc j / t) × (j % t ≡ m)
before_quotient t j m p e =
    let q = suc j / t in
    let whole = div-add-mod' (suc j) t in
    let low : suc m < t = rw e at (mod-lt (suc j) p) in
    let is : j ≡ q * t + m = omega arith in
    (ap (λ n. n / t) is ∙ digits_div q (omega arith), ap (λ n. n % t) is ∙ digits_mod q (omega arith))

-- one dimension in front: the quotient stays, and behind it the levels before are no coarser
ahead_coarser : (fs gs : Factors) (ss : Dims) (j r : ℕ) → suc j % total_levels (gs ∷ ss) ≡ r
    → ((m : ℕ) → 0 < get_or (nth_levels (gs ∷ ss) (suc m)) (length ss) 0 → no_coarser (gs ∷ ss) (nth_levels (gs ∷ ss) m) (nth_levels (gs ∷ ss) (suc m)) ≡ true)
    → 0 < get_or (nth_levels (gs ∷ ss) r) (length ss) 0
    → no_coarser (fs ∷ gs ∷ ss) ((j / total_levels (gs ∷ ss)) ∷ nth_levels (gs ∷ ss) (j % total_levels (gs ∷ ss))) ((suc j / total_levels (gs ∷ ss)) ∷ nth_levels (gs ∷ ss) r) ≡ true
unfolding no_coarser
ahead_coarser fs gs ss j zero e more h =
    absurd (omega (arith, ap (λ ls. get_or ls (length ss) 0) (first_levels (gs ∷ ss) (some_levels (gs ∷ ss))), finest_zero (gs ∷ ss) (length ss)))
ahead_coarser fs gs ss j (suc m) e more h =
    let b = before_quotient (total_levels (gs ∷ ss)) j m (some_levels (gs ∷ ss)) e in
    rw (b.0, b.1) (and_from _ _ (le-leb (suc j / total_levels (gs ∷ ss)) (suc j / total_levels (gs ∷ ss)) (omega arith)) (more m h))

nth_more : (fs : Factors) (ss : Dims) (i : ℕ) → nth_levels (fs ∷ ss) i ≡ (i / total_levels ss) ∷ nth_levels ss (i % total_levels ss)
unfolding nth_levels
nth_more fs ss i = refl

nth_one : (fs : Factors) (i : ℕ) → nth_levels (fs ∷ []) i ≡ i ∷ []
unfolding nth_levels total_levels
nth_one fs i = rw (div-one i)

one_coarser : (fs : Factors) (j : ℕ) → no_coarser (fs ∷ []) (j ∷ []) (suc j ∷ []) ≡ true
unfolding no_coarser
one_coarser fs j = and_from _ _ (le-leb j (suc j) (omega arith)) refl

nothing_coarser : (j : ℕ) → no_coarser [] (nth_levels [] j) (nth_levels [] (suc j)) ≡ true
unfolding no_coarser nth_levels
nothing_coarser j = refl

-- where the last level is not 0, the levels before are no coarser
next_coarser : (ss : Dims) (j : ℕ) → 0 < get_or (nth_levels ss (suc j)) (length ss - 1) 0 → no_coarser ss (nth_levels ss j) (nth_levels ss (suc j)) ≡ true
next_coarser [] j h = nothing_coarser j
next_coarser (fs ∷ []) j h = rw (nth_one fs j, nth_one fs (suc j)) (one_coarser fs j)
next_coarser (fs ∷ gs ∷ ss) j h =
    let l : length (fs ∷ gs ∷ ss) - 1 ≡ suc (length ss) = omega arith in
    let k : length (gs ∷ ss) - 1 ≡ length ss = omega arith in
    rw (nth_more fs (gs ∷ ss) j, nth_more fs (gs ∷ ss) (suc j))
    (ahead_coarser fs gs ss j (suc j % total_levels (gs ∷ ss)) refl (λ m b. next_coarser (gs ∷ ss) m (rw k b)) (rw (l, nth_more fs (gs ∷ ss) (suc j)) at h))

-- ---- the row
-- rolled up anew
pub front_new : (w : ℕ) (ss : Dims) (xs ys zs : List ℕ) (l : Levels) (i : ℕ) → w ≡ length ss → i < total_levels ss → Sound (length ss) xs
    → levels_of (length ss) l ≡ nth_levels ss i → zs ≡ row_over w (levels_of w l) (rolled_in w ss (levels_of w l) xs) ys → Sound w zs → Front ss xs zs i
front_new w ss xs ys zs l i wide below sound nth rolls good =
    let n = length ss in
    let ls = levels_of n l in
    let t = rolled_in n ss ls xs in
    let is : zs ≡ row_over n ls t ys = rw wide at rolls in
    let long : length ls ≡ n = rw nth (nth_length ss i below) in
    let front : length (take n xs) ≡ n = omega (arith, length-take n xs, sound.whole) in
    let wide-t = wide_rolled n ss (take n xs) ls (table_in n xs) refl front long (wide_table n xs sound.whole) in
    let levels : levels_in n zs ≡ ls = rw is (levels_row n ls long t (drop (start n (length t)) ys)) in
    let holds : table_in n zs ≡ t = rw is (table_row n ls long t (drop (start n (length t)) ys) wide-t) in
    record {
      sound = subst (λ v. Sound v zs) wide good;
      coarser = rw (levels, nth) (no_coarser_refl ss (nth_levels ss i) (nth_length ss i below));
      holds = holds ∙ ap (λ ms. rolled ss (levels_in n xs) ms (table_in n xs)) (sym levels);
    }

last_of : (ss : Dims) (l : Levels) (i : ℕ) → 1 ≤ length ss → levels_of (length ss) l ≡ nth_levels ss i
    → get_or l.at (length ss - 1) 0 ≡ get_or (nth_levels ss i) (length ss - 1) 0
last_of ss l i some nth = sym (get_or-take (length ss) l.at (length ss - 1) 0 (omega arith)) ∙ ap (λ ls. get_or ls (length ss - 1) 0) nth

-- or fine enough already
pub front_stays : (ss : Dims) (xs ys : List ℕ) (l : Levels) (i : ℕ) → 1 ≤ length ss → levels_of (length ss) l ≡ nth_levels ss i
    → (get_or l.at (length ss - 1) 0 ≡ 0 → ⊥) → (0 < i → Front ss xs ys (i - 1)) → Front ss xs ys i
front_stays ss xs ys l zero some nth last before =
    absurd (last (last_of ss l 0 some nth ∙ (ap (λ ls. get_or ls (length ss - 1) 0) (first_levels ss (some_levels ss)) ∙ finest_zero ss (length ss - 1))))
front_stays ss xs ys l (suc j) some nth last before =
    let e : suc j - 1 ≡ j = omega arith in
    let f : Front ss xs ys j = rw e at (before (omega arith)) in
    let apart : get_or (nth_levels ss (suc j)) (length ss - 1) 0 ≡ 0 → ⊥ = λ z. last (last_of ss l (suc j) some nth ∙ z) in
    record {
      sound = f.sound;
      coarser = no_coarser_trans ss (levels_in (length ss) ys) (nth_levels ss j) (nth_levels ss (suc j)) f.coarser (next_coarser ss j (omega (arith, apart)));
      holds = f.holds;
    }

-- what it is used for
pub front_size : (ss : Dims) (xs ys : List ℕ) (i : ℕ) → levels_in (length ss) xs ≡ finest ss → Front ss xs ys i
    → length (rolled_in (length ss) ss (nth_levels ss i) ys) ≡ length (rolled_in (length ss) ss (nth_levels ss i) xs)
front_size ss xs ys i ls f =
    let long = no_coarser_length ss (levels_in (length ss) ys) (nth_levels ss i) f.coarser in
    let finer : no_coarser ss (levels_in (length ss) xs) (levels_in (length ss) ys) ≡ true = rw ls (no_coarser_finest ss (levels_in (length ss) ys) long.0) in
    rw f.holds (ap length (rolled_twice ss (levels_in (length ss) xs) (levels_in (length ss) ys) (nth_levels ss i) (table_in (length ss) xs) finer f.coarser))

pub front_total : (ss : Dims) (xs ys : List ℕ) (i : ℕ) → Front ss xs ys i → total (table_in (length ss) ys) ≡ total (table_in (length ss) xs)
front_total ss xs ys i f = ap total f.holds ∙ total_rolled ss (levels_in (length ss) xs) (levels_in (length ss) ys) (table_in (length ss) xs)
