-- The table that an answer is made of: it is kept, no coarser than what is asked, and no other such has fewer groups. Assumes nothing.
use Rattle.std.proofs.Common.{◌≡◌, ℕ, ◌<◌, ◌≤◌, min, Bool, true, false, cond, ◌&&◌, ltb, List, [], ◌∷◌, map, length, get_or, sym, refl, ◌∙◌, inl, inr, arith}
use Rattle.std.specs.List.{AllByRecursion as All}
use Rattle.std.proofs.ByRecursion.{All-weaker}
use Rattle.std.proofs.lemmas.Bool.{ltb-true, ltb-false, and_parts, and_from, and_cases, and_left, and_right, both_ways, cases_Bool}
use Rattle.hierarchy.specs.Dimensions.{Dims, Row}
use Rattle.hierarchy.specs.Levels.{no_coarser, finest, are_levels}
use Rattle.hierarchy.specs.Facts.{Entry}
use Rattle.hierarchy.proofs.Laws.{no_coarser_finest, levels_length}
use Rattle.totals.specs.Tables.{table}
use Rattle.totals.specs.Cost.{cost}
use Rattle.totals.proofs.Theory.{rolled_right}
use Rattle.model.specs.House.{Kept, better, source, answer}

-- there is a first table, and it is the finest
pub record Front (ss : Dims) (ks : List Kept) : Type 0 where
  pub some : 0 < length ks
  pub first : (d : Kept) → (get_or ks 0 d).levels ≡ finest ss

-- a kept table is the table of the facts at levels that are there
pub record Good (ss : Dims) (es : List Entry) (k : Kept) : Type 0 where
  pub there : are_levels ss k.levels ≡ true
  pub right : k.cells ≡ table ss k.levels es

-- whether x is taken in place of k, and the equations of better
abbrev pub Takes : Dims → Row → Kept → Kept → Bool
Takes ss ls k x = no_coarser ss x.levels ls && ltb (length x.cells) (length k.cells)

pub better_none : (ss : Dims) (ls : Row) (k : Kept) → better ss ls k [] ≡ k
unfolding better
better_none ss ls k = refl

pub better_take : (ss : Dims) (ls : Row) (k x : Kept) (xs : List Kept) → Takes ss ls k x ≡ true → better ss ls k (x ∷ xs) ≡ better ss ls x xs
unfolding better
better_take ss ls k x xs h = rw h

pub better_pass : (ss : Dims) (ls : Row) (k x : Kept) (xs : List Kept) → Takes ss ls k x ≡ false → better ss ls k (x ∷ xs) ≡ better ss ls k xs
unfolding better
better_pass ss ls k x xs h = rw h

-- what holds of the first and of each that is no coarser holds of the better
better_both : (ss : Dims) (ls : Row) (P : Kept → Type 0) (k : Kept) (xs : List Kept) → P k
    → All (λ x. no_coarser ss x.levels ls ≡ true → P x) xs → P (better ss ls k xs)
unfolding better
better_both ss ls P k [] p a = p
better_both ss ls P k (x ∷ xs) p a =
    better_both ss ls P (cond (Takes ss ls k x) x k) xs (go (Takes ss ls k x) refl) a.1
  where
    go : (v : Bool) → Takes ss ls k x ≡ v → P (cond v x k)
    go true e = a.0 (and_parts _ _ e).0
    go false e = p

-- it has no more groups than the first, and than each that is no coarser
better_first : (ss : Dims) (ls : Row) (k : Kept) (xs : List Kept) → length (better ss ls k xs).cells ≤ length k.cells
better_first ss ls k [] = rw (better_none ss ls k) (omega arith)
better_first ss ls k (x ∷ xs) =
    elim (cases_Bool (Takes ss ls k x)) [
      | inl e ↦
          rw (better_take ss ls k x xs e)
          (omega (arith, better_first ss ls x xs, ltb-true _ _ (and_parts (no_coarser ss x.levels ls) (ltb (length x.cells) (length k.cells)) e).1))
      | inr e ↦ rw (better_pass ss ls k x xs e) (better_first ss ls k xs)
    ]

better_least : (ss : Dims) (ls : Row) (k : Kept) (xs : List Kept) (r : Kept) → better ss ls k xs ≡ r
    → All (λ x. no_coarser ss x.levels ls ≡ true → length r.cells ≤ length x.cells) xs
better_least ss ls k [] r q = tt
better_least ss ls k (x ∷ xs) r q =
    elim (cases_Bool (Takes ss ls k x)) [
      | inl e ↦
          let p : better ss ls x xs ≡ r = sym (better_take ss ls k x xs e) ∙ q in
          ((λ h. rw (← p) (better_first ss ls x xs)), better_least ss ls x xs r p)
      | inr e ↦
          let p : better ss ls k xs ≡ r = sym (better_pass ss ls k x xs e) ∙ q in (
            (λ h. elim (and_cases (no_coarser ss x.levels ls) (ltb (length x.cells) (length k.cells)) e) [
              | inl n ↦ absurd (both_ways _ n h)
              | inr n ↦ rw (← p) (omega (arith, better_first ss ls k xs, ltb-false _ _ n))
            ]),
            better_least ss ls k xs r p,
          )
    ]

-- the equations of cost
cost_none : (ss : Dims) (sz : Row → ℕ) (l : Row) → cost ss sz l [] ≡ sz (finest ss)
unfolding cost
cost_none ss sz l = refl

cost_near : (ss : Dims) (sz : Row → ℕ) (l k : Row) (ks : List Row) → no_coarser ss k l ≡ true
    → cost ss sz l (k ∷ ks) ≡ min (sz k) (cost ss sz l ks)
unfolding cost
cost_near ss sz l k ks h = rw h

cost_far : (ss : Dims) (sz : Row → ℕ) (l k : Row) (ks : List Row) → no_coarser ss k l ≡ false → cost ss sz l (k ∷ ks) ≡ cost ss sz l ks
unfolding cost
cost_far ss sz l k ks h = rw h

better_cost : (ss : Dims) (ls : Row) (sz : Row → ℕ) (k : Kept) (xs : List Kept) → length k.cells ≤ sz (finest ss)
    → All (λ x. length x.cells ≡ sz x.levels) xs
    → length (better ss ls k xs).cells ≡ min (length k.cells) (cost ss sz ls (map (λ x. x.levels) xs))
better_cost ss ls sz k [] h a = rw (better_none ss ls k, cost_none ss sz ls) (omega arith)
better_cost ss ls sz k (x ∷ xs) h a =
    let near = cost_near ss sz ls x.levels (map (λ y. y.levels) xs) in
    elim (cases_Bool (no_coarser ss x.levels ls)) [
      | inl n ↦ elim (cases_Bool (ltb (length x.cells) (length k.cells))) [
        | inl e ↦
            rw (better_take ss ls k x xs (and_from _ _ n e), near n)
            (omega (arith, better_cost ss ls sz x xs (omega (arith, ltb-true _ _ e)) a.1, a.0, ltb-true _ _ e))
        | inr e ↦
            rw (better_pass ss ls k x xs (and_right _ _ e), near n)
            (omega (arith, better_cost ss ls sz k xs h a.1, a.0, ltb-false _ _ e))
      ]
      | inr n ↦
          rw (better_pass ss ls k x xs (and_left _ _ n), cost_far ss sz ls x.levels (map (λ y. y.levels) xs) n)
          (better_cost ss ls sz k xs h a.1)
    ]

pub source_more : (ss : Dims) (ls : Row) (k : Kept) (ks : List Kept) → source ss ls (k ∷ ks) ≡ better ss ls k ks
unfolding source
source_more ss ls k ks = refl

first_finer : (ss : Dims) (ls : Row) (k : Kept) (ks : List Kept) → Front ss (k ∷ ks) → length ls ≡ length ss
    → no_coarser ss k.levels ls ≡ true
first_finer ss ls k ks f l = let e = f.first k in rw e (no_coarser_finest ss ls l)

-- what holds of each kept table that is no coarser holds of the source
pub source_both : (ss : Dims) (ls : Row) (P : Kept → Type 0) (ks : List Kept) → Front ss ks → length ls ≡ length ss
    → All (λ k. no_coarser ss k.levels ls ≡ true → P k) ks → P (source ss ls ks)
unfolding source
source_both ss ls P [] f l a = absurd (omega (arith, f.some))
source_both ss ls P (k ∷ ks) f l a = better_both ss ls P k ks (a.0 (first_finer ss ls k ks f l)) a.1

pub source_finer : (ss : Dims) (ls : Row) (ks : List Kept) → Front ss ks → length ls ≡ length ss
    → no_coarser ss (source ss ls ks).levels ls ≡ true
source_finer ss ls ks f l = source_both ss ls (λ k. no_coarser ss k.levels ls ≡ true) ks f l (every ks)
  where
    every : (xs : List Kept) → All (λ k. no_coarser ss k.levels ls ≡ true → no_coarser ss k.levels ls ≡ true) xs
    every [] = tt
    every (x ∷ xs) = ((λ h. h), every xs)

pub source_all : (ss : Dims) (ls : Row) (P : Kept → Type 0) (ks : List Kept) → Front ss ks → length ls ≡ length ss → All P ks → P (source ss ls ks)
source_all ss ls P ks f l a = source_both ss ls P ks f l (All-weaker P (λ k. no_coarser ss k.levels ls ≡ true → P k) (λ k p h. p) ks a)

pub source_least : (ss : Dims) (ls : Row) (ks : List Kept)
    → All (λ k. no_coarser ss k.levels ls ≡ true → length (source ss ls ks).cells ≤ length k.cells) ks
unfolding source
source_least ss ls [] = tt
source_least ss ls (k ∷ ks) = ((λ h. better_first ss ls k ks), better_least ss ls k ks _ refl)

pub source_cost : (ss : Dims) (ls : Row) (sz : Row → ℕ) (ks : List Kept) → Front ss ks → length ls ≡ length ss
    → All (λ k. length k.cells ≡ sz k.levels) ks
    → length (source ss ls ks).cells ≡ cost ss sz ls (map (λ k. k.levels) ks)
unfolding source
source_cost ss ls sz [] f l a = absurd (omega (arith, f.some))
source_cost ss ls sz (k ∷ ks) f l a =
    let most : length k.cells ≤ sz (finest ss) = rw (← f.first k) (omega (arith, a.0)) in
    let r = better_cost ss ls sz k ks most a.1 in
    rw (cost_near ss sz ls k.levels (map (λ x. x.levels) ks) (first_finer ss ls k ks f l), ← a.0) r

-- an answer is the table of the facts
pub answer_right : (ss : Dims) (ls : Row) (es : List Entry) (ks : List Kept) → Front ss ks → are_levels ss ls ≡ true → All (Good ss es) ks
    → answer ss ls ks ≡ table ss ls es
answer_right ss ls es ks f t a =
    let l = levels_length ss ls t in
    let g = source_all ss ls (Good ss es) ks f l a in
    rw g.right (rolled_right ss (source ss ls ks).levels ls es (source_finer ss ls ks f l))
