-- Groups as the code has them, beside those of the table. Assumes nothing.
use Rattle.std.proofs.Common.{◌≡◌, ℕ, ◌+◌, ◌-◌, ◌<◌, ◌≤◌, List, length, take, ap, arith}
use Rattle.totals.specs.Tables.{Cell, join, less}
use Rattle.summary.specs.Memory.{cell_of, table_in, count_in}
use Rattle.summary.specs.declared.group.Group.{Group}
use Rattle.summary.proofs.Rows.{table_length}

-- a place in the table is below the count
pub below_count : (w i : ℕ) (xs : List ℕ) → i < length (table_in w xs) → i < count_in w xs
below_count w i xs h = let e = table_length w xs in omega arith

pub within_count : (w i : ℕ) (xs : List ℕ) → i ≤ length (table_in w xs) → i ≤ count_in w xs
within_count w i xs h = let e = table_length w xs in omega arith

module _ (w : ℕ) (old : Group) (d : Cell) (is : cell_of w old ≡ d) where
  pub count_is : old.count ≡ d.measure.count
  count_is = ap (λ (c : Cell). c.measure.count) is

  pub sum_is : old.sum ≡ d.measure.sum
  sum_is = ap (λ (c : Cell). c.measure.sum) is

  place_is : take w old.place ≡ d.place
  place_is = ap (λ (c : Cell). c.place) is

  -- the group of the table with others, and without a fact
  pub grown : (new other : Group)
      → (new.place ≡ old.place) × (new.count ≡ old.count + other.count) × (new.sum ≡ old.sum + other.sum)
      → cell_of w new ≡ record { place = d.place; measure = join d.measure (cell_of w other).measure }
  grown new other h =
      let p = place_is in
      let c = count_is in
      let s = sum_is in
      let a = h.0 in
      let b = h.1 in
      let e = h.2 in
      cc

  pub lessened : (new : Group) (amount : ℕ)
      → (new.place ≡ old.place) × (new.count ≡ old.count - 1) × (new.sum ≡ old.sum - amount)
      → cell_of w new ≡ record { place = d.place; measure = less amount d.measure }
  lessened new amount h =
      let p = place_is in
      let c = count_is in
      let s = sum_is in
      let a = h.0 in
      let b = h.1 in
      let e = h.2 in
      cc
