-- The theorems of this crate, from its laws. Assumes nothing.
use Rattle.std.proofs.Common.{◌≡◌, ℕ, zero, suc, ◌+◌, ◌*◌, ◌^◌, ◌<◌, ◌≤◌, Bool, true, false, ◌&&◌, leb, [], ◌∷◌, length, get_or, take, drop, Some, None, Option, sym, refl, ap, arith}
use Rattle.std.specs.Option.{option_map}
use Rattle.std.proofs.lemmas.List.{get_or-take, length-take, length-take-le}
use Rattle.std.proofs.lemmas.Bool.{and_parts, and_from, leb-true, true≢false}
use Rattle.hierarchy.specs.Dimensions.{Dims, Row, product, last_level}
use Rattle.hierarchy.specs.Levels.{are_levels}
use Rattle.hierarchy.specs.Promises.{LevelIs, UpAndOn, NoCoarserOrders, EveryOnce, ReadRight}
use Rattle.hierarchy.specs.Reading.{small, factors_in, is_dimension, is_whole, dims_from, dims_in, first_bad, dims_refusal, first_missing, levels_in, levels_refusal, first_wrong, fact_refusal, entry_in}
use Rattle.replies.specs.declared.Refusal.{Refusal}
use Rattle.replies.specs.declared.Refusal.TheVariants.{NoDimensions, BadDimension, NoLevel, BadFact}
use Rattle.hierarchy.proofs.Laws.{up_finest, up_next, up_last, place_at_up, place_up_up, no_coarser_refl, no_coarser_trans, no_coarser_finest, finest_are_levels, levels_length}
use Rattle.hierarchy.proofs.Every.{times_every, every_length, every_at}
use Rattle.hierarchy.proofs.Products.{small_parts}
use Rattle.hierarchy.proofs.Scans.{wrong_none, some_none}

pub level_is : LevelIs
level_is = (λ fs n. up_finest fs 0 n (omega arith), λ fs m n h. up_next fs 0 m n (omega arith) h, λ fs n. up_last fs 0 n)

pub up_and_on : UpAndOn
up_and_on = (place_at_up, place_up_up)

pub no_coarser_orders : NoCoarserOrders
no_coarser_orders =
    (λ ss ls h. no_coarser_refl ss ls (levels_length ss ls h), no_coarser_trans, λ ss ls h. no_coarser_finest ss ls (levels_length ss ls h), finest_are_levels)

pub every_once : EveryOnce
every_once = (times_every, every_length, every_at)

-- a reason that is mapped is there, or is not, as it was
mapped_none : {A B : Type 0} (f : A → B) (o : Option A) → option_map f o ≡ None → o ≡ None
mapped_none f None h = refl
mapped_none f (Some x) h = let z : ◌≡◌ {A = ℕ} 0 1 = cc in absurd (omega arith)

-- each of k dimensions that are none of them bad
pub dims_good : (i k : ℕ) (xs : Row) → first_bad i k xs ≡ None → (length (dims_from k xs) ≡ k)
    × ((j : ℕ) → j < k → (length (get_or (dims_from k xs) j []) ≤ 4) × (0 < product (get_or (dims_from k xs) j [])) × (product (get_or (dims_from k xs) j []) < 2 ^ 32))
unfolding first_bad dims_from
dims_good i zero xs h = (refl, λ j l. absurd (omega arith))
dims_good i (suc k) xs h = go (is_dimension xs) refl (dims_good (suc i) k (drop 5 xs))
  where
    good : is_dimension xs ≡ true → (length (factors_in xs) ≤ 4) × (0 < product (factors_in xs)) × (product (factors_in xs) < 2 ^ 32)
    good e =
        let a = and_parts (leb 5 (length xs)) (leb (get_or xs 0 0) 4 && small (factors_in xs)) e in
        let b = and_parts (leb (get_or xs 0 0) 4) (small (factors_in xs)) a.1 in
        let c = small_parts (factors_in xs) b.1 in
        (omega (arith, length-take (get_or xs 0 0) (drop 1 xs), leb-true (get_or xs 0 0) 4 b.0), c.0, c.1)

    go : (v : Bool) → is_dimension xs ≡ v
        → (first_bad (suc i) k (drop 5 xs) ≡ None → (length (dims_from k (drop 5 xs)) ≡ k)
        × ((j : ℕ) → j < k → (length (get_or (dims_from k (drop 5 xs)) j []) ≤ 4) × (0 < product (get_or (dims_from k (drop 5 xs)) j []))
        × (product (get_or (dims_from k (drop 5 xs)) j []) < 2 ^ 32)))
        → (length (factors_in xs ∷ dims_from k (drop 5 xs)) ≡ suc k)
        × ((j : ℕ) → j < suc k → (length (get_or (factors_in xs ∷ dims_from k (drop 5 xs)) j []) ≤ 4)
        × (0 < product (get_or (factors_in xs ∷ dims_from k (drop 5 xs)) j [])) × (product (get_or (factors_in xs ∷ dims_from k (drop 5 xs)) j []) < 2 ^ 32))
    go true e more =
        let r = more (rw e at h) in (
          ap suc r.0,
          λ j. elim j as (λ n. n < suc k → (length (get_or (factors_in xs ∷ dims_from k (drop 5 xs)) n []) ≤ 4)
              × (0 < product (get_or (factors_in xs ∷ dims_from k (drop 5 xs)) n [])) × (product (get_or (factors_in xs ∷ dims_from k (drop 5 xs)) n []) < 2 ^ 32))
              [ zero ↦ λ l. good e | suc n ↦ λ l. r.1 n (omega arith) ],
        )
    go false e more = absurd (some_none i (rw e at h))

-- no level is missing where all are there, and the other way
pub missing_none : (i : ℕ) (ss : Dims) (ls : Row) → first_missing i ss ls ≡ None → are_levels ss (take (length ss) ls) ≡ true
unfolding first_missing are_levels
missing_none i [] ls h = refl
missing_none i (fs ∷ ss) [] h = absurd (some_none i h)
missing_none i (fs ∷ ss) (l ∷ ls) h = go (leb l (last_level fs)) refl (missing_none (suc i) ss ls)
  where
    go : (v : Bool) → leb l (last_level fs) ≡ v → (first_missing (suc i) ss ls ≡ None → are_levels ss (take (length ss) ls) ≡ true)
        → (leb l (last_level fs) && are_levels ss (take (length ss) ls)) ≡ true
    go true e more = and_from _ _ e (more (rw e at h))
    go false e more = absurd (some_none i (rw e at h))

pub none_missing : (i : ℕ) (ss : Dims) (ls : Row) → are_levels ss (take (length ss) ls) ≡ true → first_missing i ss ls ≡ None
unfolding first_missing are_levels
none_missing i [] ls h = refl
none_missing i (fs ∷ ss) [] h = absurd (true≢false (sym h))
none_missing i (fs ∷ ss) (l ∷ ls) h =
    let a = and_parts (leb l (last_level fs)) (are_levels ss (take (length ss) ls)) h in
    rw a.0 (none_missing (suc i) ss ls a.1)

some_refusal : (r : Refusal) → ◌≡◌ {A = Option Refusal} (Some r) None → ⊥
some_refusal r h = let z : ◌≡◌ {A = ℕ} 0 1 = cc in omega arith

dims_read : (xs : Row) → dims_refusal xs ≡ None → (1 ≤ length (dims_in xs)) × (length (dims_in xs) ≤ 4)
    × ((i : ℕ) → i < length (dims_in xs) → (length (get_or (dims_in xs) i []) ≤ 4) × (0 < product (get_or (dims_in xs) i []))
    × (product (get_or (dims_in xs) i []) < 2 ^ 32))
dims_read xs h = go (is_whole xs) refl
  where
    go : (v : Bool) → is_whole xs ≡ v → (1 ≤ length (dims_in xs)) × (length (dims_in xs) ≤ 4)
        × ((i : ℕ) → i < length (dims_in xs) → (length (get_or (dims_in xs) i []) ≤ 4) × (0 < product (get_or (dims_in xs) i []))
        × (product (get_or (dims_in xs) i []) < 2 ^ 32))
    go true e =
        let a = and_parts (leb 1 (get_or xs 0 0)) (leb (get_or xs 0 0) 4 && leb (1 + 5 * get_or xs 0 0) (length xs)) e in
        let b = and_parts (leb (get_or xs 0 0) 4) (leb (1 + 5 * get_or xs 0 0) (length xs)) a.1 in
        let r = dims_good 0 (get_or xs 0 0) (drop 1 xs) (mapped_none BadDimension (first_bad 0 (get_or xs 0 0) (drop 1 xs)) (rw e at h)) in
        let long = r.0 in
        (omega (arith, long, leb-true 1 (get_or xs 0 0) a.0), omega (arith, long, leb-true (get_or xs 0 0) 4 b.0), λ i l. r.1 i (omega (arith, long)))
    go false e = absurd (some_refusal NoDimensions (rw e at h))

pub fact_read : (ss : Dims) (xs : Row) → fact_refusal ss xs ≡ None → (length (entry_in ss xs).place ≡ length ss) × ((entry_in ss xs).amount < 2 ^ 32)
    × ((i : ℕ) → i < length ss → get_or (entry_in ss xs).place i 0 < 2 ^ 32)
fact_read ss xs h =
    let r = wrong_none 0 (length ss + 1) xs (mapped_none BadFact (first_wrong 0 (length ss + 1) xs) h) in
    let long = r.0 in
    (length-take-le (length ss) xs (omega (arith, long)), r.1 (length ss) (omega arith), λ i l. rw (get_or-take (length ss) xs i 0 l) (r.1 i (omega arith)))

pub levels_read : (ss : Dims) (xs : Row) → levels_refusal ss xs ≡ None → are_levels ss (levels_in ss xs) ≡ true
levels_read ss xs h = missing_none 0 ss xs (mapped_none NoLevel (first_missing 0 ss xs) h)

pub levels_none : (ss : Dims) (xs : Row) → are_levels ss (levels_in ss xs) ≡ true → levels_refusal ss xs ≡ None
levels_none ss xs h = ap (option_map NoLevel) (none_missing 0 ss xs h)

pub read_right : ReadRight
read_right = (dims_read, levels_read, levels_none, fact_read)
