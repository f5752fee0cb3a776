-- What is refused first, case by case. Assumes nothing.
use Rattle.std.proofs.Common.{◌≡◌, ℕ, zero, suc, ◌+◌, ◌<◌, ◌≤◌, Bool, true, false, leb, ◌⊎◌, length, get_or, Ok, Err, Some, None, Option, sym, refl, ap, inl, inr, arith}
use Rattle.std.specs.Option.{MatchOption}
use Rattle.std.proofs.lemmas.Bool.{cases_lt, le-leb, lt-leb, lt-ltb, le-ltb, and_from, and_left, and_right}
use Rattle.hierarchy.specs.Dimensions.{Dims, Row}
use Rattle.hierarchy.specs.Reading.{dims_in, dims_refusal, first_missing}
use Rattle.replies.specs.declared.Refusal.{Refusal}
use Rattle.replies.specs.declared.Refusal.TheVariants.{BadTable, BadTableLevel, BadGroup, NoRoom}
use Rattle.replies.specs.Replies.{of_question}
use Rattle.hierarchy.proofs.Scans.{some_none}
use Rattle.summary.specs.Memory.{start, count_in, table_in, bad, AllGood, FirstBad}
use Rattle.rollup.specs.Entry.{first_from, has_groups, most_groups, table_refusal, reach_refusal, room_refusal, roll_refusal, roll_reply, rolled_over, roll_out}

-- what passes a test first
module _ (f : ℕ → Bool) where
  pub first_none : (i k : ℕ) → ((j : ℕ) → i ≤ j → j < i + k → f j ≡ false) → first_from f i k ≡ None
  unfolding first_from
  first_none i zero h = refl
  first_none i (suc k) h = rw (h i (omega arith) (omega arith)) (first_none (suc i) k (λ j a b. h j (omega arith) (omega arith)))

  pub first_some : (i k n : ℕ) → i ≤ n → n < i + k → f n ≡ true → ((j : ℕ) → i ≤ j → j < n → f j ≡ false) → first_from f i k ≡ Some n
  unfolding first_from
  first_some i zero n a b t h = absurd (omega arith)
  first_some i (suc k) n a b t h =
      elim (cases_lt i n) [
        | inl l ↦ rw (h i (omega arith) l) (first_some (suc i) k n (omega arith) (omega arith) t (λ j p q. h j (omega arith) q))
        | inr l ↦ let e : i ≡ n = omega (arith, l) in let g : f i ≡ true = rw e t in rw g (ap Some e)
      ]

  -- what a search from the start of a range finds
  pub first_found : (n k : ℕ) (r : Option ℕ) → n ≡ k
      → MatchOption r ((j : ℕ) → 0 ≤ j → j < n → f j ≡ false) (λ i. (0 ≤ i) × (i < n) × (f i ≡ true) × ((j : ℕ) → 0 ≤ j → j < i → f j ≡ false))
      → r ≡ first_from f 0 k
  first_found n k None e h = sym (first_none 0 k (λ j a b. h j a (omega arith)))
  first_found n k (Some i) e h = sym (first_some 0 k i h.0 (omega (arith, h.1)) h.2 h.3)

  pub none_first : (i k : ℕ) → first_from f i k ≡ None → (j : ℕ) → i ≤ j → j < i + k → f j ≡ false
  unfolding first_from
  none_first i zero h j a b = absurd (omega arith)
  none_first i (suc k) h j a b = go (f i) refl (none_first (suc i) k)
    where
      go : (v : Bool) → f i ≡ v → (first_from f (suc i) k ≡ None → (j : ℕ) → suc i ≤ j → j < suc i + k → f j ≡ false) → f j ≡ false
      go true e more = absurd (some_none i (rw e at h))
      go false e more =
          elim (cases_lt i j) [
            | inl l ↦ more (rw e at h) j (omega (arith, l)) (omega arith)
            | inr l ↦ let m : j ≡ i = omega (arith, l) in rw m e
          ]

-- whether the groups of a row are there, for its count as it was read
module _ (w room : ℕ) (xs : Row) (v : ℕ) (e : v ≡ w) where
  pub groups_there : get_or xs v 0 ≤ room → leb (start w (get_or xs v 0)) (length xs) ≡ true → has_groups w room xs ≡ true
  groups_there a b =
      let a' : get_or xs w 0 ≤ room = rw e at a in
      let b' : leb (start w (get_or xs w 0)) (length xs) ≡ true = rw e at b in
      and_from _ _ (le-leb (get_or xs w 0) room a') b'

  pub groups_missing : (room < get_or xs v 0) ⊎ (leb (start w (get_or xs v 0)) (length xs) ≡ false) → has_groups w room xs ≡ false
  groups_missing (inl a) = let a' : room < get_or xs w 0 = rw e at a in and_left _ _ (lt-leb (get_or xs w 0) room a')
  groups_missing (inr b) =
      let b' : leb (start w (get_or xs w 0)) (length xs) ≡ false = rw e at b in and_right (leb (get_or xs w 0) room) _ b'

-- whether a row is a table over dimensions, w of them
module _ (ss : Dims) (room : ℕ) (xs : Row) (w : ℕ) (is : w ≡ length ss) where
  pub too_short : length xs ≤ w → table_refusal ss room xs ≡ Some (BadTable w)
  unfolding table_refusal
  too_short h = rw (← is, le-ltb w (length xs) h)

  module _ (long : w < length xs) where
    pub no_level : (d : ℕ) → first_missing 0 ss xs ≡ Some d → table_refusal ss room xs ≡ Some (BadTableLevel d)
    unfolding table_refusal
    no_level d h = rw (← is, lt-ltb w (length xs) long, h)

    module _ (levels : first_missing 0 ss xs ≡ None) where
      pub no_groups : has_groups w room xs ≡ false → table_refusal ss room xs ≡ Some (BadTable w)
      unfolding table_refusal
      no_groups h = rw (← is, lt-ltb w (length xs) long, levels, h)

      module _ (groups : has_groups w room xs ≡ true) where
        pub bad_group : (g : ℕ) → FirstBad (table_in w xs) g → table_refusal ss room xs ≡ Some (BadGroup g)
        unfolding table_refusal
        bad_group g h =
            let e = first_some (bad (table_in w xs)) 0 (length (table_in w xs)) g (omega arith) (omega (arith, h.0)) h.1 (λ j a b. h.2 j b) in
            rw (← is, lt-ltb w (length xs) long, levels, groups, e)

        pub all_good : AllGood (table_in w xs) → table_refusal ss room xs ≡ None
        unfolding table_refusal
        all_good h =
            let e = first_none (bad (table_in w xs)) 0 (length (table_in w xs)) (λ j a b. h j (omega arith)) in
            rw (← is, lt-ltb w (length xs) long, levels, groups, e)

-- whether a table is rolled up
module _ (sides from to : Row) (n : ℕ) (e : Refusal) where
  pub by_dims : dims_refusal sides ≡ Some e → roll_refusal sides from to n ≡ Some e
  unfolding roll_refusal
  by_dims h = rw h

  module _ (ss : Dims) (is : ss ≡ dims_in sides) (dims : dims_refusal sides ≡ None) where
    pub by_table : table_refusal ss most_groups from ≡ Some e → roll_refusal sides from to n ≡ Some e
    unfolding roll_refusal
    by_table h = rw (dims, ← is, h)

    module _ (there : table_refusal ss most_groups from ≡ None) where
      pub by_reach : reach_refusal ss from to ≡ Some e → roll_refusal sides from to n ≡ Some e
      unfolding roll_refusal
      by_reach h = rw (dims, ← is, there, h)

pub by_room : (sides from to : Row) (n : ℕ) (ss : Dims) → ss ≡ dims_in sides → dims_refusal sides ≡ None → table_refusal ss most_groups from ≡ None
    → reach_refusal ss from to ≡ None → roll_refusal sides from to n ≡ room_refusal (length ss) from n
unfolding roll_refusal
by_room sides from to n ss is dims there reach = rw (dims, ← is, there, reach)

-- where there is room, and where there is none
pub room_of : (w : ℕ) (from : Row) (n k : ℕ) → k ≡ count_in w from → leb (start w k) n ≡ true → room_refusal w from n ≡ None
unfolding room_refusal
room_of w from n k e h = let g : leb (start w (count_in w from)) n ≡ true = rw e at h in rw g

pub no_room_of : (w : ℕ) (from : Row) (n k : ℕ) → k ≡ count_in w from → leb (start w k) n ≡ false → room_refusal w from n ≡ Some (NoRoom n)
unfolding room_refusal
no_room_of w from n k e h = let g : leb (start w (count_in w from)) n ≡ false = rw e at h in rw g

-- what is told, and what the row holds then
pub refused : (sides from to out : Row) (e : Refusal) → roll_refusal sides from to (length out) ≡ Some e
    → (of_question (Err e) ≡ roll_reply sides from to (length out)) × (out ≡ roll_out sides from to out)
refused sides from to out e h = (rw h, rw h)

pub rolled_up : (sides from to out : Row) (ss : Dims) (k : ℕ) → roll_refusal sides from to (length out) ≡ None → ss ≡ dims_in sides
    → k ≡ count_in (length ss) from → (of_question (Ok k) ≡ roll_reply sides from to (length out)) × (rolled_over ss from to out ≡ roll_out sides from to out)
rolled_up sides from to out ss k h is e = (rw (h, e, is), rw (h, is))
