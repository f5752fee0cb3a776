-- The list of all levels: it has each row of levels that is there once and no other, and its i-th is known. Assumes nothing.
use Rattle.std.proofs.Common.{◌≡◌, ℕ, zero, suc, ◌+◌, ◌-◌, ◌*◌, ◌/◌, ◌%◌, ◌<◌, ◌≤◌, Bool, true, false, cond, ◌&&◌, leb, ◌⊎◌, List, [], ◌∷◌, ◌++◌, map, length, get_or, sym, refl, inl, inr, ⊎_elim, add-zero, mod-lt, mod-eq_of_lt, suc-mul, mul-zero, zero-add, zero-mul, arith}
use native.Mathlib.Nat.{div-eq_of_lt, div-eq-sub-div, mod-eq-sub-mod, zero-div}
use lib.Arith.{digits_lt, digits_div, digits_mod}
use Rattle.std.specs.List.{range_with_len, flat_map}
use Rattle.std.proofs.lemmas.List.{length-append, length-map, get_or_append_left, get_or-append_right, get_or-map}
use Rattle.std.proofs.lemmas.Bool.{leb-true, le-leb, leb-false, eq-eqb, ne_eqb, and_parts, and_from, cases_lt, true≢false}
use Rattle.std.proofs.lemmas.Nat.{div_below, mul-le}
use Rattle.hierarchy.specs.Dimensions.{Dims, Row, last_level}
use Rattle.hierarchy.specs.Levels.{are_levels, finest, every, same, times, total_levels, nth_levels}

-- each of n levels from a on before each of the rows
abbrev before : ℕ → ℕ → List Row → List Row
before a n rs = flat_map (λ l. map (λ ls. l ∷ ls) rs) (range_with_len a n)

before_length : (a n : ℕ) (rs : List Row) → length (before a n rs) ≡ n * length rs
before_length a zero rs = sym (zero-mul (length rs))
before_length a (suc n) rs =
    omega (arith, length-append (map (λ ls. a ∷ ls) rs) (before (a + 1) n rs), length-map rs (λ ls. a ∷ ls), before_length (a + 1) n rs, suc-mul n (length rs))

positive : (n m i : ℕ) → i < n * m → 0 < m
positive n zero i h = absurd (omega (arith, mul-zero n))
positive n (suc m) i h = omega arith

before_at : (a n : ℕ) (rs : List Row) (i : ℕ) → i < n * length rs → get_or (before a n rs) i [] ≡ (a + i / length rs) ∷ get_or rs (i % length rs) []
before_at a zero rs i h = absurd (omega (arith, zero-mul (length rs)))
before_at a (suc n) rs i h = ⊎_elim first (later (before_at (a + 1) n rs (i - length rs))) (cases_lt i (length rs))
  where
    here : List Row
    here = map (λ ls. a ∷ ls) rs

    first : i < length rs → get_or (here ++ before (a + 1) n rs) i [] ≡ (a + i / length rs) ∷ get_or rs (i % length rs) []
    first k =
        rw (
          get_or_append_left here (before (a + 1) n rs) [] i (omega (arith, length-map rs (λ ls. a ∷ ls))),
          get_or-map (λ ls. a ∷ ls) rs i [] [] k,
          div-eq_of_lt k,
          mod-eq_of_lt k,
          add-zero a,
        )

    later : (i - length rs < n * length rs → get_or (before (a + 1) n rs) (i - length rs) [] ≡ (a + 1 + (i - length rs) / length rs) ∷ get_or rs ((i - length rs) % length rs) [])
        → length rs ≤ i → get_or (here ++ before (a + 1) n rs) i [] ≡ (a + i / length rs) ∷ get_or rs (i % length rs) []
    later more k =
        let pos = positive (suc n) (length rs) i h in
        let rest : i - length rs < n * length rs = omega (arith, suc-mul n (length rs)) in
        let e : a + 1 + (i - length rs) / length rs ≡ a + i / length rs = omega (arith, div-eq-sub-div pos k) in
        rw (get_or-append_right here (before (a + 1) n rs) (length rs) i [] (length-map rs (λ ls. a ∷ ls)) k, more rest, e, mod-eq-sub-mod k)

times_append : (r : Row) (xs ys : List Row) → times r (xs ++ ys) ≡ times r xs + times r ys
unfolding times
times_append r [] ys = sym (zero-add (times r ys))
times_append r (x ∷ xs) ys = omega (arith, times_append r xs ys)

times_here : (l a : ℕ) (ls : Row) (rs : List Row) → l ≡ a → times (l ∷ ls) (map (λ ms. a ∷ ms) rs) ≡ times ls rs
unfolding times same
times_here l a ls [] h = refl
times_here l a ls (r ∷ rs) h = rw (eq-eqb l a h, times_here l a ls rs h)

times_elsewhere : (l a : ℕ) (ls : Row) (rs : List Row) → (l ≡ a → ⊥) → times (l ∷ ls) (map (λ ms. a ∷ ms) rs) ≡ 0
unfolding times same
times_elsewhere l a ls [] h = refl
times_elsewhere l a ls (r ∷ rs) h = rw (ne_eqb l a h, times_elsewhere l a ls rs h)

times_before_no : (a n l : ℕ) (ls : Row) (rs : List Row) → (l < a) ⊎ (a + n ≤ l) → times (l ∷ ls) (before a n rs) ≡ 0
unfolding times
times_before_no a zero l ls rs h = refl
times_before_no a (suc n) l ls rs h =
    rw (
      times_append (l ∷ ls) (map (λ ms. a ∷ ms) rs) (before (a + 1) n rs),
      times_elsewhere l a ls rs (λ e. ⊎_elim (λ p. omega arith) (λ p. omega arith) h),
      times_before_no (a + 1) n l ls rs (⊎_elim (λ p. inl (omega arith)) (λ p. inr (omega arith)) h),
    )

times_before : (a n l : ℕ) (ls : Row) (rs : List Row) → a ≤ l → l < a + n → times (l ∷ ls) (before a n rs) ≡ times ls rs
times_before a zero l ls rs p q = absurd (omega arith)
times_before a (suc n) l ls rs p q = ⊎_elim (λ k. past (times_before (a + 1) n l ls rs (omega arith) (omega arith)) k) here (cases_lt a l)
  where
    split : times (l ∷ ls) (before a (suc n) rs) ≡ times (l ∷ ls) (map (λ ms. a ∷ ms) rs) + times (l ∷ ls) (before (a + 1) n rs)
    split = times_append (l ∷ ls) (map (λ ms. a ∷ ms) rs) (before (a + 1) n rs)

    past : times (l ∷ ls) (before (a + 1) n rs) ≡ times ls rs → a < l → times (l ∷ ls) (before a (suc n) rs) ≡ times ls rs
    past more k = omega (arith, split, times_elsewhere l a ls rs (λ e. omega arith))

    here : l ≤ a → times (l ∷ ls) (before a (suc n) rs) ≡ times ls rs
    here k = omega (arith, split, times_here l a ls rs (omega arith), times_before_no (a + 1) n l ls rs (inl (omega arith)))

nil_map : (a : ℕ) (rs : List Row) → times [] (map (λ ms. a ∷ ms) rs) ≡ 0
unfolding times same
nil_map a [] = refl
nil_map a (r ∷ rs) = rw (nil_map a rs)

times_before_nil : (a n : ℕ) (rs : List Row) → times [] (before a n rs) ≡ 0
unfolding times
times_before_nil a zero rs = refl
times_before_nil a (suc n) rs = rw (times_append [] (map (λ ms. a ∷ ms) rs) (before (a + 1) n rs), nil_map a rs, times_before_nil (a + 1) n rs)

-- each row of levels that is there stands in the list once, and no other stands there
pub times_every : (ss : Dims) (ls : Row) → times ls (every ss) ≡ cond (are_levels ss ls) 1 0
unfolding every are_levels times same
times_every [] [] = refl
times_every [] (l ∷ ls) = refl
times_every (fs ∷ ss) [] = times_before_nil 0 (length fs + 2) (every ss)
times_every (fs ∷ ss) (l ∷ ls) = go (times_every ss ls) (leb l (last_level fs)) refl
  where
    go : times ls (every ss) ≡ cond (are_levels ss ls) 1 0 → (v : Bool) → leb l (last_level fs) ≡ v
        → times (l ∷ ls) (before 0 (length fs + 2) (every ss)) ≡ cond (v && are_levels ss ls) 1 0
    go more true e = rw (times_before 0 (length fs + 2) l ls (every ss) (omega arith) (omega (arith, leb-true l (last_level fs) e))) more
    go more false e = times_before_no 0 (length fs + 2) l ls (every ss) (inr (omega (arith, leb-false l (last_level fs) e)))

pub every_length : (ss : Dims) → length (every ss) ≡ total_levels ss
unfolding every total_levels
every_length [] = refl
every_length (fs ∷ ss) = rw (before_length 0 (length fs + 2) (every ss), every_length ss)

total_positive : (ss : Dims) → 0 < total_levels ss
unfolding total_levels
total_positive [] = omega arith
total_positive (fs ∷ ss) = omega (arith, mul-le 1 1 (length fs + 2) (total_levels ss) (omega arith) (total_positive ss))

pub every_at : (ss : Dims) (i : ℕ) → i < total_levels ss → get_or (every ss) i [] ≡ nth_levels ss i
unfolding every total_levels nth_levels
every_at [] zero h = refl
every_at [] (suc i) h = refl
every_at (fs ∷ ss) i h =
    let e = every_length ss in
    let m : i % length (every ss) < total_levels ss = rw e (mod-lt i (total_positive ss)) in
    rw (before_at 0 (length fs + 2) (every ss) i (rw e h), every_at ss (i % length (every ss)) m, e, zero-add (i / total_levels ss))

nth_there : (ss : Dims) (i : ℕ) → i < total_levels ss → are_levels ss (nth_levels ss i) ≡ true
unfolding total_levels nth_levels are_levels
nth_there [] i h = refl
nth_there (fs ∷ ss) i h =
    and_from _ _ (le-leb (i / total_levels ss) (last_level fs) (omega (arith, div_below i (total_levels ss) (length fs + 2) (total_positive ss) h)))
    (nth_there ss (i % total_levels ss) (mod-lt i (total_positive ss)))

-- what is in the list is there
pub every_there : (ss : Dims) (i : ℕ) → i < length (every ss) → are_levels ss (get_or (every ss) i []) ≡ true
every_there ss i h = let k : i < total_levels ss = omega (arith, every_length ss) in rw (every_at ss i k) (nth_there ss i k)

-- and what is there is in the list
pub there_every : (ss : Dims) (ls : Row) → are_levels ss ls ≡ true → (i : ℕ) × (i < length (every ss)) × (get_or (every ss) i [] ≡ ls)
unfolding every are_levels
there_every [] [] h = (0, omega arith, refl)
there_every [] (l ∷ ls) h = absurd (true≢false (sym h))
there_every (fs ∷ ss) [] h = absurd (true≢false (sym h))
there_every (fs ∷ ss) (l ∷ ls) h =
    let a = and_parts (leb l (last_level fs)) (are_levels ss ls) h in
    let r = there_every ss ls a.1 in
    let j : l * length (every ss) + r.0 < (length fs + 2) * length (every ss) = digits_lt (omega (arith, leb-true l (last_level fs) a.0)) r.1 in (
      l * length (every ss) + r.0,
      rw (before_length 0 (length fs + 2) (every ss)) j,
      rw (before_at 0 (length fs + 2) (every ss) (l * length (every ss) + r.0) j, digits_div l r.1, digits_mod l r.1, r.2, zero-add l),
    )

nth_first : (ss : Dims) → nth_levels ss 0 ≡ finest ss
unfolding nth_levels finest
nth_first [] = refl
nth_first (fs ∷ ss) = rw (zero-div (total_levels ss), mod-eq_of_lt (total_positive ss), nth_first ss)

-- the first of the list is the finest
pub every_first : (ss : Dims) → get_or (every ss) 0 [] ≡ finest ss
every_first ss = rw (every_at ss 0 (total_positive ss)) (nth_first ss)
