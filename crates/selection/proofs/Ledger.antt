-- Facts one behind the other: the first that is none, and the table of all. Assumes nothing.
use Rattle.std.proofs.Common.{◌≡◌, ℕ, zero, suc, ◌+◌, ◌-◌, ◌*◌, ◌/◌, ◌%◌, ◌^◌, ◌<◌, ◌≤◌, min, Bool, true, false, cond, ◌||◌, eqb, ltb, List, [], ◌∷◌, ◌++◌, length, get_or, take, drop, Some, None, Option, sym, refl, ap, ◌∙◌, ⊎_elim, subst, mul_comm, mul-le-mul_left, mul-zero, add-one, arith, append-nil, length-append, length-drop}
use denote.Ref.{Bor}
use Rattle.std.specs.declared.slice.Chunks.{Chunks}
use Rattle.std.specs.Slice.Iter.{chunks_rest, chunks_size, chunks_steps}
use Rattle.std.proofs.Math.Seq.{take-append_seam, drop-append_seam}
use Rattle.std.proofs.lemmas.Grind.{div_ceil_times}
use Rattle.std.proofs.lemmas.List.{take_all, drop_all, drop-drop}
use Rattle.std.proofs.lemmas.Bool.{cases_lt, ltb-false, ne_eqb}
use Rattle.hierarchy.specs.Dimensions.{Dims, Row, four}
use Rattle.hierarchy.specs.Levels.{finest}
use Rattle.hierarchy.specs.Parts.{parts}
use Rattle.hierarchy.specs.Places.{place_up, place_at}
use Rattle.hierarchy.specs.Reading.{fact_refusal, entry_in}
use Rattle.hierarchy.specs.Views.{levels_of}
use Rattle.hierarchy.specs.declared.levels.Levels.{Levels}
use Rattle.replies.specs.declared.Refusal.{Refusal}
use Rattle.replies.specs.declared.Refusal.TheVariants.{LedgerFull, BadChoice}
use Rattle.hierarchy.proofs.Fours.{whole_four}
use Rattle.hierarchy.proofs.Laws.{finest_length, up_finest}
use Rattle.hierarchy.proofs.Parts.{next_place, place_le, parts_length, part_at}
use Rattle.hierarchy.proofs.Rises.{finest_zeros}
use Rattle.hierarchy.proofs.Theory.{fact_read}
use Rattle.totals.specs.Cost.{size}
use Rattle.totals.specs.Tables.{Measure, Cell, Table, one, put, table, rolled}
use Rattle.totals.specs.Counts.{total}
use Rattle.totals.specs.Promises.{NoneEmpty}
use Rattle.summary.specs.Memory.{stride, start, none, cell_of, count_in, table_in, holding, Wide, Sound, put_in, can_put, PutFits}
use Rattle.summary.specs.declared.group.Group.{Group}
use Rattle.totals.proofs.Put.{rolled_none, rolled_more, rolled_length, rolled_in_order, rolled_none_empty, total_more, total_none, total_rolled}
use Rattle.summary.proofs.Holdings.{levels_holding, table_holding, sound_holding}
use Rattle.summary.proofs.Rows.{table_length}
use Rattle.summary.proofs.Raised.{begun_levels}
use Rattle.summary.proofs.Rolls.{wide_rolled, begun, turn_sound, turn_fits, turn_room, turn_again}
use Rattle.totals.proofs.Theory.{table_none, table_more}
use Rattle.selection.specs.Entry.{first_of, refused_if, fact_count, facts_in, facts_refusal, limits_refusal, groups_refusal, over_refusal, Gathered}

-- ---- how many, and where
-- the count rounds up
rounds_up : (m : ℕ) → cond (eqb m 0) 0 1 ≡ min 1 m
rounds_up zero = refl
rounds_up (suc m) = rw (ne_eqb (suc m) 0 (λ e. omega arith)) (omega arith)

pub count_is : (ss : Dims) (xs : Row) → fact_count ss xs ≡ length xs / (length ss + 1) + min 1 (length xs % (length ss + 1))
count_is ss xs = ap (λ n. length xs / (length ss + 1) + n) (rounds_up (length xs % (length ss + 1)))

count_bounds : (ss : Dims) (xs : Row) → (length xs ≤ fact_count ss xs * (length ss + 1)) × (fact_count ss xs * (length ss + 1) < length xs + (length ss + 1))
count_bounds ss xs = rw (count_is ss xs) (div_ceil_times (length xs) (length ss + 1) (omega arith))

above : (n s k i : ℕ) → n ≤ k * s → s * i < n → i < k
above n s k i most h = ⊎_elim (λ l. l) (λ l. absurd (omega (arith, mul-le-mul_left s l, mul_comm s k))) (cases_lt i k)

at_most : (n s k i : ℕ) → k * s < n + s → n ≤ s * i → k ≤ i
at_most n s k i less h = ⊎_elim (λ l. absurd (omega (arith, mul-le-mul_left s (let m : suc i ≤ k = omega arith in m), next_place s i, mul_comm s k))) (λ l. l) (cases_lt i k)

-- a part begins before the end just where it is one of them
pub count_above : (ss : Dims) (xs : Row) (i : ℕ) → (length ss + 1) * i < length xs → i < fact_count ss xs
count_above ss xs i h = above (length xs) (length ss + 1) (fact_count ss xs) i (count_bounds ss xs).0 h

pub count_most : (ss : Dims) (xs : Row) (i : ℕ) → length xs ≤ (length ss + 1) * i → fact_count ss xs ≤ i
count_most ss xs i h = at_most (length xs) (length ss + 1) (fact_count ss xs) i (count_bounds ss xs).1 h

-- the part that comes off the front, and what is left
part_off : (s : ℕ) (x more rest : Row) → rest ≡ x ++ more → length x ≡ min s (length rest) → (x ≡ take s rest) × (more ≡ drop s rest)
part_off s x [] rest e l =
    let whole : rest ≡ x = e ∙ append-nil x in
    let short : length rest ≤ s = omega (arith, ap length whole) in
    (sym (take_all s rest short ∙ whole), sym (drop_all s rest short))
part_off s x (y ∷ more) rest e l =
    let full : length x ≡ s = omega (arith, ap length e, length-append x (y ∷ more)) in
    (rw (e, ← full) (sym (take-append_seam x (y ∷ more))), rw (e, ← full) (sym (drop-append_seam x (y ∷ more))))

-- what is left to a loop over the parts after i turns, and one turn
abbrev pub Left : ℕ → Row → ℕ → Chunks ℕ → Type 0
Left s xs i it = (chunks_size it ≡ s) × (chunks_rest it ≡ drop (s * i) xs)

pub left_more : (s : ℕ) (xs : Row) (i : ℕ) (from to : Chunks ℕ) (r : Option (Bor Row)) (x : Bor Row) → Left s xs i from → r ≡ Some x → chunks_steps from r to
    → (x.now ≡ take s (drop (s * i) xs)) × Left s xs (i + 1) to × (s * i < length xs)
left_more s xs i from to r x left is steps =
    let more = rw is at steps in
    let off = part_off s x.now (chunks_rest to) (chunks_rest from) more.1.0 (more.1.1 ∙ ap (λ n. min n (length (chunks_rest from))) left.0) in
    let next : drop s (drop (s * i) xs) ≡ drop (s * (i + 1)) xs =
    drop-drop s (s * i) xs ∙ ap (λ n. drop n xs) (omega (arith, next_place s i, ap (λ n. s * n) (add-one i))) in
    (off.0 ∙ ap (take s) left.1, (more.0 ∙ left.0, off.1 ∙ (ap (drop s) left.1 ∙ next)), omega (arith, more.1.2, ap length left.1, length-drop (s * i) xs))

pub left_none : (s : ℕ) (xs : Row) (i : ℕ) (from to : Chunks ℕ) (r : Option (Bor Row)) → Left s xs i from → r ≡ None → chunks_steps from r to → length xs ≤ s * i
left_none s xs i from to r left is steps = let done = rw is at steps in omega (arith, done.1.0, ap length left.1, length-drop (s * i) xs)

-- ---- the first that is none
first_none : (a b : Option Refusal) → first_of a b ≡ None → (a ≡ None) × (b ≡ None)
first_none None b h = (refl, h)
first_none (Some x) b h = let z : ◌≡◌ {A = ℕ} 0 1 = cc in absurd (omega arith)

module _ (ss : Dims) (k : ℕ) (xs : Row) (i : ℕ) where
  pub refusal_next : i < k → fact_refusal ss (take (length ss + 1) (drop ((length ss + 1) * i) xs)) ≡ None
      → facts_refusal ss (k - i) (drop ((length ss + 1) * i) xs) ≡ facts_refusal ss (k - (i + 1)) (drop ((length ss + 1) * (i + 1)) xs)
  unfolding facts_refusal
  refusal_next h e =
      let m : k - i ≡ suc (k - (i + 1)) = omega arith in
      let d : drop ((length ss + 1) * (i + 1)) xs ≡ drop (length ss + 1) (drop ((length ss + 1) * i) xs) =
      ap (λ n. drop n xs) (omega (arith, next_place (length ss + 1) i, ap (λ n. (length ss + 1) * n) (add-one i))) ∙ sym (drop-drop (length ss + 1) ((length ss + 1) * i) xs) in
      rw (m, d, e)

  pub refusal_here : i < k → (r : Refusal) → fact_refusal ss (take (length ss + 1) (drop ((length ss + 1) * i) xs)) ≡ Some r
      → facts_refusal ss (k - i) (drop ((length ss + 1) * i) xs) ≡ Some r
  unfolding facts_refusal
  refusal_here h r e = let m : k - i ≡ suc (k - (i + 1)) = omega arith in rw (m, e)

  pub refusal_end : k ≤ i → facts_refusal ss (k - i) (drop ((length ss + 1) * i) xs) ≡ None
  unfolding facts_refusal
  refusal_end h = let m : k - i ≡ 0 = omega arith in rw m

refusal_parts : (ss : Dims) (k : ℕ) (xs : Row) → facts_refusal ss (suc k) xs ≡ None
    → (fact_refusal ss (take (length ss + 1) xs) ≡ None) × (facts_refusal ss k (drop (length ss + 1) xs) ≡ None)
unfolding facts_refusal
refusal_parts ss k xs h = first_none (fact_refusal ss (take (length ss + 1) xs)) (facts_refusal ss k (drop (length ss + 1) xs)) h

-- where none is refused, each is a fact
pub none_refused : (ss : Dims) (k : ℕ) (xs : Row) (i : ℕ) → facts_refusal ss k xs ≡ None → i < k → fact_refusal ss (take (length ss + 1) (drop ((length ss + 1) * i) xs)) ≡ None
none_refused ss zero xs i h l = absurd (omega arith)
none_refused ss (suc k) xs zero h l = rw (mul-zero (length ss + 1)) (refusal_parts ss k xs h).0
none_refused ss (suc k) xs (suc i) h l =
    rw (next_place (length ss + 1) i, ← drop-drop ((length ss + 1) * i) (length ss + 1) xs)
    (none_refused ss k (drop (length ss + 1) xs) i (refusal_parts ss k xs h).1 (omega arith))

-- ---- facts as groups of one
abbrev fact_cell : Dims → Row → Cell
fact_cell ss x = record { place = take (length ss) x; measure = one (get_or x (length ss) 0) }

abbrev pub fact_cells : Dims → ℕ → Row → Table
fact_cells ss k xs = parts (fact_cell ss) (length ss + 1) k xs

place_at_is : (ss : Dims) (p : Row) (m : Measure) (t : Table) → put (place_at ss (finest ss) p) m t ≡ put (place_up ss (finest ss) (finest ss) p) m t
unfolding place_at
place_at_is ss p m t = refl

pub table_of_facts : (ss : Dims) (k : ℕ) (xs : Row)
    → table ss (finest ss) (parts (entry_in ss) (length ss + 1) k xs) ≡ rolled ss (finest ss) (finest ss) (fact_cells ss k xs)
unfolding parts
table_of_facts ss zero xs = rw (table_none ss (finest ss), rolled_none ss (finest ss) (finest ss))
table_of_facts ss (suc k) xs =
    let x = take (length ss + 1) xs in
    let rest = drop (length ss + 1) xs in
    rw (
      table_more ss (finest ss) (entry_in ss x) (parts (entry_in ss) (length ss + 1) k rest),
      rolled_more ss (finest ss) (finest ss) (fact_cell ss x) (fact_cells ss k rest),
      table_of_facts ss k rest,
    ) (place_at_is ss (take (length ss) x) (one (get_or x (length ss) 0)) (rolled ss (finest ss) (finest ss) (fact_cells ss k rest)))

-- how much they are together
pub facts_total : (ss : Dims) (k : ℕ) (xs : Row) → facts_refusal ss k xs ≡ None
    → ((total (fact_cells ss k xs)).count ≡ k) × ((total (fact_cells ss k xs)).sum ≤ k * 2 ^ 32)
unfolding parts
facts_total ss zero xs h = rw total_none (refl, omega arith)
facts_total ss (suc k) xs h =
    let p = refusal_parts ss k xs h in
    let r = facts_total ss k (drop (length ss + 1) xs) p.1 in
    let f = fact_read ss (take (length ss + 1) xs) p.0 in
    rw (total_more (fact_cell ss (take (length ss + 1) xs)) (fact_cells ss k (drop (length ss + 1) xs))) (omega (arith, r.0), omega (arith, r.1, f.1))

place_finest : (ss : Dims) (p : Row) → length p ≡ length ss → place_up ss (finest ss) (finest ss) p ≡ p
unfolding place_up finest
place_finest [] [] h = refl
place_finest [] (x ∷ p) h = absurd (omega arith)
place_finest (fs ∷ ss) [] h = absurd (omega arith)
place_finest (fs ∷ ss) (x ∷ p) h = rw (up_finest fs 0 x (omega arith), place_finest ss p (omega arith))

cells_wide : (w : ℕ) (ss : Dims) (k : ℕ) (xs : Row) → w ≡ length ss → facts_refusal ss k xs ≡ None → Wide w (fact_cells ss k xs)
cells_wide w ss k xs wide good j d h =
    let n = parts_length (fact_cell ss) (length ss + 1) k xs in
    rw (part_at (fact_cell ss) (length ss + 1) j k xs d (omega arith), wide)
    (fact_read ss (take (length ss + 1) (drop ((length ss + 1) * j) xs)) (none_refused ss k xs j good (omega arith))).0

cells_filled : (ss : Dims) (k : ℕ) (xs : Row) → NoneEmpty (fact_cells ss k xs)
cells_filled ss k xs j d h =
    let n = parts_length (fact_cell ss) (length ss + 1) k xs in rw (part_at (fact_cell ss) (length ss + 1) j k xs d (omega arith)) (omega arith)

-- a row at the finest levels, with no group yet
pub gather_start : (w : ℕ) (ss : Dims) (xs ys : List ℕ) (l : Levels) → w ≡ length ss → w ≤ 4 → l.at ≡ 0 ∷ 0 ∷ 0 ∷ 0 ∷ [] → w < length xs
    → ys ≡ levels_of w l ++ (0 ∷ drop (w + 1) xs) → (ys ≡ holding w (rolled ss (finest ss) (finest ss) []) ys) × (take w ys ≡ finest ss)
gather_start w ss xs ys l wide few zeros h e =
    let ms : levels_of w l ≡ finest ss = rw (zeros, wide) (finest_zeros ss (omega arith)) in
    let long : length (levels_of w l) ≡ w = rw (ms, wide) (finest_length ss) in
    (rw (rolled_none ss (finest ss) (finest ss)) (begun w (levels_of w l) xs ys long h e), begun_levels w (levels_of w l) xs ys long e ∙ ms)

-- one turn: the i-th fact comes to the row that holds those before it
pub gather_turn : (w : ℕ) (ss : Dims) (xs ys row : List ℕ) (k i : ℕ) (g : Group) → w ≡ length ss → w ≤ 4 → facts_refusal ss k xs ≡ None → k ≤ 65536
    → start w k ≤ length ys → i < k → (x : Row) → x ≡ take (length ss + 1) (drop ((length ss + 1) * i) xs)
    → g.place ≡ four (take (length ss) x) → g.count ≡ 1 → g.sum ≡ get_or x (length ss) 0
    → row ≡ holding w (rolled ss (finest ss) (finest ss) (take i (fact_cells ss k xs))) ys
    → Sound w row × PutFits w g row × (can_put w g row ≡ true)
    × (holding w (put_in w g row) row ≡ holding w (rolled ss (finest ss) (finest ss) (take (i + 1) (fact_cells ss k xs))) ys)
gather_turn w ss xs ys row k i g wide few good most room l x is at once much holds =
    let s = length ss + 1 in
    let t = fact_cells ss k xs in
    let n = parts_length (fact_cell ss) s k xs in
    let here : get_or t i none ≡ fact_cell ss x = part_at (fact_cell ss) s i k xs none l ∙ ap (fact_cell ss) (sym is) in
    let read = fact_read ss x (rw is (none_refused ss k xs i good l)) in
    let ls : length (finest ss) ≡ w = finest_length ss ∙ sym wide in
    let cells = cells_wide w ss k xs wide good in
    let filled = cells_filled ss k xs in
    let room' : start w (length t) ≤ length ys = rw n room in
    let l' : i < length t = omega (arith, n) in
    let all = facts_total ss k xs good in
    let place : (cell_of w g).place ≡ place_up ss (finest ss) (finest ss) (get_or t i none).place =
    rw (here, place_finest ss (take (length ss) x) read.0, at, wide) (whole_four (length ss) (take (length ss) x) (omega arith) read.0) in
    let measure : (cell_of w g).measure ≡ (get_or t i none).measure = rw (here, once, much) in
    rw holds (
      turn_sound ss (finest ss) (finest ss) t ys w (sym wide) ls ls cells filled room' i l',
      turn_fits ss (finest ss) (finest ss) t ys w (sym wide) ls ls cells filled room' i l' g place measure (omega (arith, all.0)) (omega (arith, all.1)),
      turn_room ss (finest ss) (finest ss) t ys w (sym wide) ls ls cells filled room' i l' g place measure,
      turn_again ss (finest ss) (finest ss) t ys w (sym wide) ls ls cells filled room' i l' g place measure,
    )

-- the row after the last
pub gather_end : (w : ℕ) (ss : Dims) (xs ys row : List ℕ) (k i : ℕ) → w ≡ length ss → facts_refusal ss k xs ≡ None → start w k ≤ length ys
    → take w ys ≡ finest ss → k ≤ i → k ≡ fact_count ss xs → row ≡ holding w (rolled ss (finest ss) (finest ss) (take i (fact_cells ss k xs))) ys → Gathered ss xs row
gather_end w ss xs ys row k i wide good room ls past whole holds =
    let t = fact_cells ss k xs in
    let n = parts_length (fact_cell ss) (length ss + 1) k xs in
    let u = rolled ss (finest ss) (finest ss) t in
    let all : take i t ≡ t = take_all i t (omega arith) in
    let is : row ≡ holding w u ys = rw all at holds in
    let long : length (finest ss) ≡ w = finest_length ss ∙ sym wide in
    let wide-u = wide_rolled w ss (finest ss) (finest ss) t (sym wide) long long (cells_wide w ss k xs wide good) in
    let few = place_le (stride w) (length u) k (omega (arith, rolled_length ss (finest ss) (finest ss) t)) in
    let room' : start w (length u) ≤ length ys = omega arith in
    let facts : u ≡ table ss (finest ss) (facts_in ss xs) =
    sym (table_of_facts ss k xs) ∙ ap (λ n. table ss (finest ss) (parts (entry_in ss) (length ss + 1) n xs)) whole in
    rw is
    (record {
      sound = subst (λ v. Sound v (holding w u ys)) wide (sound_holding w u ys wide-u room' (rolled_in_order ss (finest ss) (finest ss) t) (rolled_none_empty ss (finest ss) (finest ss) t (cells_filled ss k xs)));
      levels = ap (λ v. take v (holding w u ys)) (sym wide) ∙ (levels_holding w u ys wide-u room' ∙ ls);
      facts = ap (λ v. table_in v (holding w u ys)) (sym wide) ∙ (table_holding w u ys wide-u room' ∙ facts);
    })

-- ---- what the gathered facts are
pub gathered_small : (ss : Dims) (xs row : List ℕ) → facts_refusal ss (fact_count ss xs) xs ≡ None → fact_count ss xs ≤ 65536 → Gathered ss xs row
    → ((total (table_in (length ss) row)).count < 2 ^ 64) × ((total (table_in (length ss) row)).sum < 2 ^ 64) × (count_in (length ss) row < 2 ^ 32)
gathered_small ss xs row good few g =
    let k = fact_count ss xs in
    let t = fact_cells ss k xs in
    let is : table_in (length ss) row ≡ rolled ss (finest ss) (finest ss) t = g.facts ∙ table_of_facts ss k xs in
    let all = facts_total ss k xs good in
    let n : count_in (length ss) row ≡ length (rolled ss (finest ss) (finest ss) t) = sym (table_length (length ss) row) ∙ ap length is in
    let m : total (table_in (length ss) row) ≡ total t = ap total is ∙ total_rolled ss (finest ss) (finest ss) t in
    (rw m (omega (arith, all.0)), rw m (omega (arith, all.1)), omega (arith, rolled_length ss (finest ss) (finest ss) t, parts_length (fact_cell ss) (length ss + 1) k xs))

pub gathered_size : (ss : Dims) (xs row : List ℕ) → Gathered ss xs row → size ss (facts_in ss xs) (finest ss) ≡ count_in (length ss) row
gathered_size ss xs row g = sym (ap length g.facts) ∙ table_length (length ss) row

pub limits_few : (k n : ℕ) → limits_refusal k n ≡ None → k ≤ 65536
limits_few k n h = ltb-false 65536 k (go (ltb 65536 k) h)
  where
    go : (v : Bool) → first_of (refused_if v (LedgerFull 65536)) (refused_if (eqb n 0 || ltb 15 n) (BadChoice n)) ≡ None → v ≡ false
    go true e = let z : ◌≡◌ {A = ℕ} 0 1 = cc in absurd (omega arith)
    go false e = refl

-- where facts and limits are right, only the groups are left to be refused
pub over_groups : (ss : Dims) (n : ℕ) (xs row : List ℕ) (k : ℕ) → k ≡ fact_count ss xs → facts_refusal ss (fact_count ss xs) xs ≡ None → limits_refusal k n ≡ None
    → Gathered ss xs row → over_refusal ss n xs ≡ groups_refusal (count_in (length ss) row)
over_groups ss n xs row k e good fit g =
    let fit' : limits_refusal (fact_count ss xs) n ≡ None = rw e at fit in
    ap (λ o. first_of o (first_of (limits_refusal (fact_count ss xs) n) (groups_refusal (size ss (facts_in ss xs) (finest ss))))) good
    ∙ (ap (λ o. first_of o (groups_refusal (size ss (facts_in ss xs) (finest ss)))) fit' ∙ ap groups_refusal (gathered_size ss xs row g))
