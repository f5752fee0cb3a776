-- All levels as a list, made by one after the other. Assumes nothing.
use Rattle.std.proofs.Common.{◌≡◌, ℕ, ◌+◌, ◌<◌, ◌≤◌, List, [], ◌∷◌, ◌++◌, map, replicate, length, get_or, sym, refl, ap, ◌∙◌, arith, below_more}
use Rattle.std.specs.List.{range_with_len, zip}
use Rattle.std.proofs.lemmas.List.{length-map, length_push, get_or_push, get_or_append_left}
use Rattle.std.proofs.lemmas.Simd.{map-map}
use Rattle.std.proofs.lemmas.List.FromFn.{length-range_with_len, length-map-range_with_len, get_or-map-range_with_len}
use Rattle.std.proofs.lemmas.Slice.Zip.{firsts-zip, seconds-zip}
use Rattle.hierarchy.specs.Dimensions.{Dims, four}
use Rattle.hierarchy.specs.Levels.{total_levels, nth_levels}
use Rattle.hierarchy.specs.Views.{levels_of}
use Rattle.hierarchy.specs.declared.levels.Levels.{Levels}
use Rattle.greedy.specs.declared.by_sizes.Candidate.{Candidate}
use Rattle.greedy.specs.Candidates.{all_levels_of, sizes_of, costs_of}
use Rattle.greedy.specs.Turns.{AllLevels}
use Rattle.hierarchy.proofs.Every.{every_length, every_at, every_there}
use Rattle.hierarchy.proofs.Laws.{levels_length}
use Rattle.hierarchy.proofs.Fours.{whole_four}

pub nth_length : (ss : Dims) (i : ℕ) → i < total_levels ss → length (nth_levels ss i) ≡ length ss
nth_length ss i h = levels_length ss (nth_levels ss i) (rw (every_at ss i h) at (every_there ss i (omega (arith, every_length ss))))

pub nth_of : (ss : Dims) (i : ℕ) (x : Levels) → length ss ≤ 4 → i < total_levels ss → x.at ≡ four (nth_levels ss i) → levels_of (length ss) x ≡ nth_levels ss i
nth_of ss i x f h e = rw e (whole_four (length ss) (nth_levels ss i) f (nth_length ss i h))

-- one number more of a list that a function of the index gives
pub number_more : (f : ℕ → ℕ) (vs ws : List ℕ) (x i : ℕ) → length vs ≡ i → ((j : ℕ) → j < i → get_or vs j 0 ≡ f j)
    → ws ≡ vs ++ x ∷ [] → x ≡ f i → (length ws ≡ i + 1) × ((j : ℕ) → j < i + 1 → get_or ws j 0 ≡ f j)
number_more f vs ws x i l each p e =
    rw p (
      length_push vs x ∙ ap (λ n. n + 1) l,
      λ j h. below_more (λ j. get_or (vs ++ x ∷ []) j 0 ≡ f j) i
          (λ j h. rw (get_or_append_left vs (x ∷ []) 0 j (omega arith)) (each j h)) (rw (get_or_push vs x 0 i l) e) j h,
    )

-- ---- as chains make them
abbrev pub nth_at : Dims → ℕ → Levels
nth_at ss i = record { at = four (nth_levels ss i) }

pub all_listed : (ss : Dims) (n : ℕ) (vs : List Levels) → length ss ≤ 4 → n ≡ total_levels ss → 1 ≤ n → n ≤ 1296
    → vs ≡ map (nth_at ss) (range_with_len 0 n) → AllLevels ss vs
all_listed ss n vs few is some most e =
    let long : length vs ≡ n = ap length e ∙ length-map-range_with_len (nth_at ss) 0 n in
    record {
      long = long ∙ is;
      few = omega arith;
      some = omega arith;
      each = λ i d h. let i-below : i < n = omega arith in
          nth_of ss i (get_or vs i d) few (omega arith) (ap (λ (l : Levels). l.at) (ap (λ xs. get_or xs i d) e ∙ get_or-map-range_with_len (nth_at ss) 0 n i i d i-below (omega arith)));
    }

abbrev pub candidate : ℕ → Levels × ℕ → Candidate
candidate cost p = record { levels = p.0; size = p.1; cost = cost }

replicated : {X : Type 0} (c : ℕ) (xs : List X) → map (λ _. c) xs ≡ replicate (length xs) c
replicated c [] = refl
replicated c (x ∷ xs) = ap (λ ys. c ∷ ys) (replicated c xs)

-- the candidate at an index of all levels
abbrev pub candidate_at : Dims → ℕ → ℕ × ℕ → Candidate
candidate_at ss cost p = candidate cost (nth_at ss p.0, p.1)

pub candidates_listed : (ss : Dims) (n : ℕ) (zs : List ℕ) (c : ℕ) (vs : List Candidate) → length ss ≤ 4 → n ≡ total_levels ss → 1 ≤ n → n ≤ 1296 → length zs ≡ n
    → vs ≡ map (candidate_at ss c) (zip (range_with_len 0 n) zs)
    → AllLevels ss (all_levels_of vs) × (sizes_of vs ≡ zs) × (costs_of vs ≡ replicate (length vs) c)
candidates_listed ss n zs c vs few is some most l e =
    let pairs = zip (range_with_len 0 n) zs in
    let long : length zs ≡ length (range_with_len 0 n) = l ∙ sym (length-range_with_len 0 n) in
    let levels : all_levels_of vs ≡ map (nth_at ss) (range_with_len 0 n) =
    ap all_levels_of e ∙ (map-map _ (candidate_at ss c) pairs ∙ (sym (map-map (nth_at ss) (λ (p : ℕ × ℕ). p.0) pairs) ∙ ap (map (nth_at ss)) (firsts-zip (range_with_len 0 n) zs long))) in (
      all_listed ss n (all_levels_of vs) few is some most levels,
      ap sizes_of e ∙ (map-map _ (candidate_at ss c) pairs ∙ seconds-zip (range_with_len 0 n) zs long),
      ap costs_of e ∙ (map-map _ (candidate_at ss c) pairs ∙ (replicated c pairs ∙ ap (λ k. replicate k c) (sym (ap length e ∙ length-map pairs (candidate_at ss c))))),
    )
