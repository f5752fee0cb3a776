-- What levels and places promise. Each is a statement; a function's contract asks for its proof. Assumes nothing.
use Rattle.std.specs.Prelude.{◌≡◌, ℕ, ◌+◌, ◌/◌, ◌^◌, ◌<◌, ◌≤◌, true, cond, [], ◌∷◌, length, None, slice_index, slice_index_or}
use Rattle.hierarchy.specs.Dimensions.{Factors, Dims, Row, product, up, last_level}
use Rattle.hierarchy.specs.Levels.{are_levels, no_coarser, finest, every, times, total_levels, nth_levels}
use Rattle.hierarchy.specs.Places.{place_up, place_at}
use Rattle.hierarchy.specs.Reading.{dims_in, dims_refusal, levels_in, levels_refusal, fact_refusal, entry_in}

-- what a level is: at level 0 a number is itself; the next level divides by its factor; at the last it is 0
abbrev pub LevelIs : Type 0
LevelIs =
    ((fs : Factors) (n : ℕ) → up fs 0 0 n ≡ n)
    × ((fs : Factors) (m n : ℕ) → m < length fs → up fs 0 (m + 1) n ≡ up fs 0 m n / slice_index fs m)
    × ((fs : Factors) (n : ℕ) → up fs 0 (last_level fs) n ≡ 0)

-- up to levels ls and then on to coarser ms is up to ms, from the finest levels and from any
abbrev pub UpAndOn : Type 0
UpAndOn =
    ((ss : Dims) (ls ms ns : Row) → no_coarser ss ls ms ≡ true → place_up ss ls ms (place_at ss ls ns) ≡ place_at ss ms ns)
    × ((ss : Dims) (ls ms ks ns : Row) → no_coarser ss ls ms ≡ true → no_coarser ss ms ks ≡ true
    → place_up ss ms ks (place_up ss ls ms ns) ≡ place_up ss ls ks ns)

-- no coarser is reflexive and transitive, and the finest levels are there and no coarser than any that are there
abbrev pub NoCoarserOrders : Type 0
NoCoarserOrders =
    ((ss : Dims) (ls : Row) → are_levels ss ls ≡ true → no_coarser ss ls ls ≡ true)
    × ((ss : Dims) (ls ms ks : Row) → no_coarser ss ls ms ≡ true → no_coarser ss ms ks ≡ true → no_coarser ss ls ks ≡ true)
    × ((ss : Dims) (ls : Row) → are_levels ss ls ≡ true → no_coarser ss (finest ss) ls ≡ true)
    × ((ss : Dims) → are_levels ss (finest ss) ≡ true)

-- the list of all levels has each row of levels that is there once, and no other; the i-th of it is `nth_levels`
abbrev pub EveryOnce : Type 0
EveryOnce =
    ((ss : Dims) (ls : Row) → times ls (every ss) ≡ cond (are_levels ss ls) 1 0)
    × ((ss : Dims) → length (every ss) ≡ total_levels ss)
    × ((ss : Dims) (i : ℕ) → i < total_levels ss → slice_index_or (every ss) i [] ≡ nth_levels ss i)

-- what is read is what was meant: one to four dimensions of at most four factors, none 0, with products below 2^32; levels that are
-- there; facts of one number a dimension, each number and the amount below 2^32
abbrev pub ReadRight : Type 0
ReadRight =
    ((xs : Row) → dims_refusal xs ≡ None → (1 ≤ length (dims_in xs)) × (length (dims_in xs) ≤ 4)
    × ((i : ℕ) → i < length (dims_in xs) → (length (slice_index_or (dims_in xs) i []) ≤ 4) × (0 < product (slice_index_or (dims_in xs) i []))
    × (product (slice_index_or (dims_in xs) i []) < 2 ^ 32)))
    × ((ss : Dims) (xs : Row) → levels_refusal ss xs ≡ None → are_levels ss (levels_in ss xs) ≡ true)
    × ((ss : Dims) (xs : Row) → are_levels ss (levels_in ss xs) ≡ true → levels_refusal ss xs ≡ None)
    × ((ss : Dims) (xs : Row) → fact_refusal ss xs ≡ None → (length (entry_in ss xs).place ≡ length ss) × ((entry_in ss xs).amount < 2 ^ 32)
    × ((i : ℕ) → i < length ss → slice_index (entry_in ss xs).place i < 2 ^ 32))

-- the worked example: two branches make a town and two towns a county; seven days make a week
abbrev pub Worked : Type 0
Worked =
    (up (2 ∷ 2 ∷ []) 0 1 5 ≡ 2) × (up (7 ∷ []) 0 1 10 ≡ 1)
    × (place_at ((2 ∷ 2 ∷ []) ∷ (7 ∷ []) ∷ []) (3 ∷ 2 ∷ []) (5 ∷ 10 ∷ []) ≡ 0 ∷ 0 ∷ [])
