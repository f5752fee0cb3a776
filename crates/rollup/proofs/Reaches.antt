-- Levels that can be reached from those of a table: they are no finer, so a table rolled up to them is right. Assumes nothing.
use Rattle.std.proofs.Common.{◌≡◌, ℕ, zero, suc, ◌<◌, ◌≤◌, true, ltb, leb, [], ◌∷◌, length, get_or, take, Some, None, Option, refl, inl, inr, arith, length-take}
use Rattle.std.specs.Option.{option_map, option_or}
use Rattle.std.proofs.lemmas.Bool.{cases_lt, le-leb, leb-false, ltb-false, or_parts}
use Rattle.hierarchy.specs.Dimensions.{Dims, Row, four}
use Rattle.hierarchy.specs.Levels.{no_coarser, levels_in_dimension}
use Rattle.hierarchy.specs.Reading.{dims_in, dims_refusal}
use Rattle.replies.specs.declared.Refusal.{Refusal}
use Rattle.hierarchy.proofs.Fours.{whole_four}
use Rattle.totals.specs.Tables.{table, rolled}
use Rattle.summary.specs.Memory.{table_in, row_over, rolled_in}
use Rattle.rollup.specs.Entry.{table_refusal, out_of_reach, reach_refusal, room_refusal, most_groups, roll_refusal, rolled_over, ShownRight}
use Rattle.totals.proofs.Theory.{rolled_right}
use Rattle.rollup.proofs.Refusals.{none_first, too_short}

mapped_none : (f : ℕ → Refusal) (o : Option ℕ) → option_map f o ≡ None → o ≡ None
mapped_none f None h = refl
mapped_none f (Some i) h = let z : ◌≡◌ {A = ℕ} 0 1 = cc in absurd (omega arith)

each_no_coarser : (ss : Dims) (ls ms : Row) → length ss ≤ length ls → length ss ≤ length ms
    → ((i : ℕ) → i < length ss → get_or ls i 0 ≤ get_or ms i 0) → no_coarser ss (take (length ss) ls) (take (length ss) ms) ≡ true
unfolding no_coarser
each_no_coarser [] ls ms a b h = refl
each_no_coarser (fs ∷ ss) [] ms a b h = absurd (omega arith)
each_no_coarser (fs ∷ ss) (l ∷ ls) [] a b h = absurd (omega arith)
each_no_coarser (fs ∷ ss) (l ∷ ls) (m ∷ ms) a b h =
    rw (le-leb l m (h 0 (omega arith))) (each_no_coarser ss ls ms (omega arith) (omega arith) (λ i k. h (suc i) (omega arith)))

module _ (ss : Dims) (ls ms : Row) (reach : reach_refusal ss ls ms ≡ None) where
  reached : (i : ℕ) → i < length ss → (i < length ms) × (get_or ls i 0 ≤ get_or ms i 0)
  unfolding reach_refusal
  reached i l =
      let f = none_first (out_of_reach ss ls ms) 0 (length ss) (mapped_none _ _ reach) i (omega arith) (omega arith) in
      let a = or_parts (leb (length ms) i) _ f in
      let b = or_parts (leb (levels_in_dimension ss i) (get_or ms i 0)) (ltb (get_or ms i 0) (get_or ls i 0)) a.1 in
      (leb-false (length ms) i a.0, ltb-false (get_or ms i 0) (get_or ls i 0) b.1)

  reached-long : length ss ≤ length ms
  reached-long = go (length ss) refl
    where
      go : (n : ℕ) → length ss ≡ n → length ss ≤ length ms
      go zero e = omega arith
      go (suc n) e = omega (arith, (reached n (omega arith)).0)

  pub reached_no_coarser : length ss ≤ length ls → no_coarser ss (take (length ss) ls) (take (length ss) ms) ≡ true
  reached_no_coarser l = each_no_coarser ss ls ms l reached-long (λ i h. (reached i h).1)

  -- levels in an array of four
  pub reached_row : (w : ℕ) (at out : Row) → w ≡ length ss → w ≤ 4 → at ≡ four (take (length ss) ms)
      → row_over w (take w at) (rolled_in w ss (take w at) ls) out ≡ rolled_over ss ls ms out
  reached_row w at out is few e =
      let long : length (take (length ss) ms) ≡ length ss = omega (arith, length-take (length ss) ms, reached-long) in
      let a : take (length ss) at ≡ take (length ss) ms = rw e (whole_four (length ss) (take (length ss) ms) (omega arith) long) in
      rw (is, a)

-- where nothing is refused, the facts at the levels asked for are shown
none_of : (a b : Option Refusal) → option_or a b ≡ None → (a ≡ None) × (b ≡ None)
none_of None b h = (refl, h)
none_of (Some e) b h = let z : ◌≡◌ {A = ℕ} 0 1 = cc in absurd (omega arith)

table_long : (ss : Dims) (room : ℕ) (xs : Row) → table_refusal ss room xs ≡ None → length ss < length xs
table_long ss room xs h =
    elim (cases_lt (length ss) (length xs)) [
      | inl l ↦ l
      | inr l ↦ let e = too_short ss room xs (length ss) refl l in let z : ◌≡◌ {A = ℕ} 0 1 = cc in absurd (omega (arith, z))
    ]

pub shown_right : ShownRight
unfolding roll_refusal
shown_right sides from to out es h e =
    let ss = dims_in sides in
    let w = length ss in
    let a = none_of (dims_refusal sides) _ h in
    let b = none_of (table_refusal ss most_groups from) _ a.1 in
    let c = none_of (reach_refusal ss from to) (room_refusal w from (length out)) b.1 in
    let long = table_long ss most_groups from b.0 in
    let finer = reached_no_coarser ss from to c.0 (omega arith) in
    let right : rolled ss (take w from) (take w to) (table_in w from) ≡ table ss (take w to) es =
    rw e (rolled_right ss (take w from) (take w to) es finer) in
    rw (a.0, b.0, c.0, c.1, right)
