-- Rows of numbers read as dimensions, levels and facts, and the first fault of a row that is none. Assumes nothing: these are definitions.
use Rattle.std.specs.Prelude.{ℕ, zero, suc, ◌+◌, ◌*◌, ◌^◌, Bool, cond, ◌&&◌, [], ◌∷◌, length, take, drop, Some, None, Option, nat_le, nat_lt, slice_index}
use Rattle.std.specs.Option.{option_map}
use Rattle.hierarchy.specs.Dimensions.{Factors, Dims, Row, product, last_level}
use Rattle.hierarchy.specs.Facts.{Entry}
use Rattle.replies.specs.declared.Refusal.{Refusal}
use Rattle.replies.specs.declared.Refusal.TheVariants.{NoDimensions, BadDimension, NoLevel, BadFact}

-- no factor is 0 (the product would be), and the product of all is below 2^32
abbrev pub small : Factors → Bool
small fs = nat_lt 0 (product fs) && nat_lt (product fs) (2 ^ 32)

-- a dimension is how many factors it has, at most four, and room for four
abbrev pub factors_in : Row → Factors
factors_in xs = take (slice_index xs 0) (drop 1 xs)

abbrev pub is_dimension : Row → Bool
is_dimension xs = nat_le 5 (length xs) && (nat_le (slice_index xs 0) 4 && small (factors_in xs))

-- the dimensions are how many there are, and then one behind the other
unfoldable pub dims_from : ℕ → Row → Dims
dims_from zero xs = []
dims_from (suc k) xs = factors_in xs ∷ dims_from k (drop 5 xs)

abbrev pub dims_in : Row → Dims
dims_in xs = dims_from (slice_index xs 0) (drop 1 xs)

-- one to four of them, and no fewer numbers than they ask for
abbrev pub is_whole : Row → Bool
is_whole xs = nat_le 1 (slice_index xs 0) && (nat_le (slice_index xs 0) 4 && nat_le (1 + 5 * slice_index xs 0) (length xs))

-- the first of k dimensions that is none, counted from i
unfoldable pub first_bad : ℕ → ℕ → Row → Option ℕ
first_bad i zero xs = None
first_bad i (suc k) xs = cond (is_dimension xs) (first_bad (suc i) k (drop 5 xs)) (Some i)

abbrev pub dims_refusal : Row → Option Refusal
dims_refusal xs = cond (is_whole xs) (option_map BadDimension (first_bad 0 (slice_index xs 0) (drop 1 xs))) (Some NoDimensions)

-- the first dimension, counted from i, whose level is missing or not there; numbers behind the levels are not read
unfoldable pub first_missing : ℕ → Dims → Row → Option ℕ
first_missing i [] ls = None
first_missing i (fs ∷ ss) [] = Some i
first_missing i (fs ∷ ss) (l ∷ ls) = cond (nat_le l (last_level fs)) (first_missing (suc i) ss ls) (Some i)

abbrev pub levels_refusal : Dims → Row → Option Refusal
levels_refusal ss ls = option_map NoLevel (first_missing 0 ss ls)

abbrev pub levels_in : Dims → Row → Row
levels_in ss ls = take (length ss) ls

-- the first number, counted from i, that is missing, not below 2^32, or behind the k that there are to be
unfoldable pub first_wrong : ℕ → ℕ → Row → Option ℕ
first_wrong i zero [] = None
first_wrong i zero (x ∷ xs) = Some i
first_wrong i (suc k) [] = Some i
first_wrong i (suc k) (x ∷ xs) = cond (nat_lt x (2 ^ 32)) (first_wrong (suc i) k xs) (Some i)

-- a fact is one number a dimension and an amount
abbrev pub fact_refusal : Dims → Row → Option Refusal
fact_refusal ss xs = option_map BadFact (first_wrong 0 (length ss + 1) xs)

abbrev pub entry_in : Dims → Row → Entry
entry_in ss xs = record { place = take (length ss) xs; amount = slice_index xs (length ss) }
