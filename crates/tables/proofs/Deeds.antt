-- A fact that comes to the table in a part, or goes from it. Assumes nothing.
use Rattle.std.proofs.Common.{◌≡◌, ℕ, suc, ◌+◌, ◌^◌, ◌<◌, ◌≤◌, Bool, true, false, cond, List, [], ◌∷◌, length, take, sym, refl, ap, ◌∙◌, subst, inl, inr, arith}
use Rattle.std.proofs.lemmas.List.{length-take-le}
use Rattle.std.proofs.lemmas.Bool.{cases_Bool, or_left, or_right, or_parts, le-leb}
use Rattle.hierarchy.specs.Dimensions.{Dims, Row, four}
use Rattle.hierarchy.specs.Levels.{same, finest}
use Rattle.hierarchy.specs.Facts.{Entry}
use Rattle.hierarchy.specs.Places.{place_up, place_at}
use Rattle.hierarchy.proofs.Fours.{whole_four}
use Rattle.hierarchy.proofs.Fronts.{place_up_take}
use Rattle.hierarchy.proofs.Laws.{place_at_length}
use Rattle.hierarchy.proofs.Parts.{place_le}
use Rattle.totals.specs.Tables.{Measure, Table, one, put, take_out, before}
use Rattle.totals.specs.Counts.{total}
use Rattle.summary.specs.Memory.{start, stride, count_in, table_in, holding, held, cell_of, put_in, can_put, PutFits}
use Rattle.summary.specs.Memory as summary
use Rattle.summary.specs.declared.group.Group.{Group}
use Rattle.summary.proofs.Rolls.{at_within}
use Rattle.summary.proofs.Rows.{table_length}
use Rattle.summary.proofs.Soundness.{wide_put, wide_take_out, wide_table, table_put, sound_put, table_take, put_within}
use Rattle.summary.proofs.Holdings.{levels_holding}
use Rattle.model.specs.House.{with_fact, without_fact}
use Rattle.tables.specs.Memory.{kept_in}

-- a place that no group has is a new group
pub put_new : (p : Row) (m : Measure) (t : Table) → held p t ≡ false → length (put p m t) ≡ length t + 1
unfolding held put
put_new p m [] h = refl
put_new p m (g ∷ gs) h = go (before p g.place) refl (put_new p m gs (or_parts (same p g.place) (held p gs) h).1)
  where
    other : same p g.place ≡ false
    other = (or_parts (same p g.place) (held p gs) h).0

    go : (v : Bool) → before p g.place ≡ v → length (put p m gs) ≡ length gs + 1
        → length (cond (same p g.place) (record { place = g.place; measure = record { count = g.measure.count + m.count; sum = g.measure.sum + m.sum } } ∷ gs)
        (cond (before p g.place) (record { place = p; measure = m } ∷ g ∷ gs) (g ∷ put p m gs))) ≡ suc (length gs) + 1
    go true e more = rw (other, e) (omega arith)
    go false e more = rw (other, e) (omega arith)

-- from a place that no group has nothing goes
pub take_out_missing : (p : Row) (a : ℕ) (t : Table) → held p t ≡ false → take_out p a t ≡ t
unfolding held take_out
take_out_missing p a [] h = refl
take_out_missing p a (g ∷ gs) h =
    let parts = or_parts (same p g.place) (held p gs) h in
    rw parts.0 (ap (λ t. g ∷ t) (take_out_missing p a gs parts.1))

-- the table has room for a group more, or needs none
pub room_for : (w : ℕ) (g : Group) (xs : List ℕ) → length (table_in w xs) ≡ count_in w xs → start w (length (put_in w g xs)) ≤ length xs → can_put w g xs ≡ true
room_for w g xs n h =
    elim (cases_Bool (held (cell_of w g).place (table_in w xs))) [
      | inl there ↦ or_left _ _ there
      | inr none ↦
          let more = put_new (cell_of w g).place (cell_of w g).measure (table_in w xs) none in
          let e : length (put_in w g xs) ≡ count_in w xs + 1 = omega (arith, more, n) in
          or_right _ _ (le-leb (start w (count_in w xs + 1)) (length xs) (rw e at h))
    ]

module _ (ss : Dims) (w : ℕ) (e : Entry) (xs : List ℕ) (few : w ≤ 4) (width : length ss ≡ w) (s : summary.Sound w xs) (long : length e.place ≡ w) where
  -- the levels of the part
  levels_long : length (take w xs) ≡ w
  levels_long = length-take-le w xs (omega (arith, s.whole))

  -- the fact's place at them
  place : Row
  place = place_at ss (take w xs) e.place

  place-long : length place ≡ w
  unfolding place
  place-long = place_at_length ss (take w xs) e.place (levels_long ∙ sym width) (long ∙ sym width) ∙ width

  module _ (g : Group) (here : take w g.place ≡ place_at ss (take w xs) e.place) (once : g.count ≡ 1) (much : g.sum ≡ e.amount) where
    put_is : put_in w g xs ≡ (with_fact ss e (kept_in w xs)).cells
    put_is =
        let m : (cell_of w g).measure ≡ one e.amount = cc in
        cc

    group-long : length (cell_of w g).place ≡ w
    unfolding place
    group-long = ap length here ∙ place-long

    pub put_kept : (ys : List ℕ) (r : Bool) → start w (length (with_fact ss e (kept_in w xs)).cells) ≤ length xs → r ≡ can_put w g xs
        → ys ≡ cond r (holding w (put_in w g xs) xs) xs → (kept_in w ys ≡ with_fact ss e (kept_in w xs)) × summary.Sound w ys
    put_kept ys r room told after =
        let can = room_for w g xs (table_length w xs) (rw put_is room) in
        let is : ys ≡ holding w (put_in w g xs) xs = after ∙ ap (λ b. cond b (holding w (put_in w g xs) xs) xs) (told ∙ can) in
        let cells = table_put w g xs s group-long can in
        let wide = wide_put w (cell_of w g).place (cell_of w g).measure (table_in w xs) group-long (wide_table w xs s.whole) in
        let levels = levels_holding w (put_in w g xs) xs wide (put_within w g xs s can) in
        let same : kept_in w (holding w (put_in w g xs) xs) ≡ with_fact ss e (kept_in w xs) = rw (levels, cells, put_is) in
        (ap (kept_in w) is ∙ same, rw is (sound_put w g xs s group-long can (omega arith)))

    -- its numbers hold what there is then
    pub put_fits : ((total (table_in w xs)).count + 1 < 2 ^ 64) × ((total (table_in w xs)).sum + e.amount < 2 ^ 64) → PutFits w g xs
    put_fits fits =
        let r = at_within (cell_of w g).place (table_in w xs) in
        (omega (arith, r.0, fits.0), omega (arith, r.1, fits.1))

  module _ (p : Row) (here : take w p ≡ place_at ss (take w xs) e.place) where
    pub take_kept : (ys : List ℕ) (r : Bool) → r ≡ held (take w p) (table_in w xs)
        → ys ≡ cond r (holding w (take_out (take w p) e.amount (table_in w xs)) xs) xs → kept_in w ys ≡ without_fact ss e (kept_in w xs)
    take_kept ys true told after =
        let cells = table_take w (take w p) e.amount xs s in
        let taken = wide_take_out w (take w p) e.amount (table_in w xs) (wide_table w xs s.whole) in
        let n = table_length w xs in
        let k = place_le (stride w) (length (take_out (take w p) e.amount (table_in w xs))) (count_in w xs) (omega (arith, taken.1)) in
        let levels = levels_holding w (take_out (take w p) e.amount (table_in w xs)) xs taken.0 (omega (arith, s.whole)) in
        let same : kept_in w (holding w (take_out (take w p) e.amount (table_in w xs)) xs) ≡ without_fact ss e (kept_in w xs) = rw (levels, cells, here) in
        ap (kept_in w) after ∙ same
    take_kept ys false told after =
        let none = take_out_missing (take w p) e.amount (table_in w xs) (sym told) in
        let same : kept_in w xs ≡ without_fact ss e (kept_in w xs) = rw (← here, none) in
        ap (kept_in w) after ∙ same

-- the place that the code makes of a fact's four numbers
pub fact_place : (ss : Dims) (w : ℕ) (xs ps : List ℕ) → length ss ≡ w → w ≤ 4 → w ≤ length xs → w ≤ length ps
    → take w (four (place_at ss (take w (four (take w xs))) ps)) ≡ place_at ss (take w xs) (take w ps)
unfolding place_at
fact_place ss w xs ps width few a b =
    let long = length-take-le w xs a in
    let levels = whole_four w (take w xs) few long in
    let same = place_up_take ss (finest ss) (take w xs) ps in
    let taken = length-take-le w ps b in
    let up = place_at_length ss (take w xs) (take w ps) (long ∙ sym width) (taken ∙ sym width) in
    rw (levels, ← same, width) (whole_four w (place_up ss (finest ss) (take w xs) (take w ps)) few (up ∙ width))

-- the same as the code has it: v is the width that a shape or a book says
module _ (ss : Dims) (v : ℕ) (q : v ≡ length ss) (few : length ss ≤ 4) (e : Entry) (xs : List ℕ) (s : summary.Sound (length ss) xs)
    (long : length e.place ≡ length ss) where
  module _ (g : Group) (here : take (length ss) g.place ≡ place_at ss (take (length ss) xs) e.place) (once : g.count ≡ 1) (much : g.sum ≡ e.amount) where
    pub fits_there : ((total (table_in (length ss) xs)).count + 1 < 2 ^ 64) × ((total (table_in (length ss) xs)).sum + e.amount < 2 ^ 64) → PutFits v g xs
    fits_there fits = subst (λ (n : ℕ). PutFits n g xs) (sym q) (put_fits ss (length ss) e xs few refl s long g here once much fits)

    pub put_done : (ys : List ℕ) (r : Bool) → start (length ss) (length (with_fact ss e (kept_in (length ss) xs)).cells) ≤ length xs → r ≡ can_put v g xs
        → ys ≡ cond r (holding v (put_in v g xs) xs) xs → (kept_in (length ss) ys ≡ with_fact ss e (kept_in (length ss) xs)) × summary.Sound (length ss) ys
    put_done ys r room told after =
        put_kept ss (length ss) e xs few refl s long g here once much ys r room (subst (λ (n : ℕ). r ≡ can_put n g xs) q told)
        (subst (λ (n : ℕ). ys ≡ cond r (holding n (put_in n g xs) xs) xs) q after)

  pub take_done : (p : Row) → take (length ss) p ≡ place_at ss (take (length ss) xs) e.place → (ys : List ℕ) (r : Bool)
      → r ≡ held (take v p) (table_in v xs) → ys ≡ cond r (holding v (take_out (take v p) e.amount (table_in v xs)) xs) xs → summary.Sound v ys
      → (kept_in (length ss) ys ≡ without_fact ss e (kept_in (length ss) xs)) × summary.Sound (length ss) ys
  take_done p here ys r told after sound = (
    take_kept ss (length ss) e xs few refl s long p here ys r (subst (λ (n : ℕ). r ≡ held (take n p) (table_in n xs)) q told)
        (subst (λ (n : ℕ). ys ≡ cond r (holding n (take_out (take n p) e.amount (table_in n xs)) xs) xs) q after),
    subst (λ (n : ℕ). summary.Sound n ys) q sound,
  )

-- the place that the code makes of a fact's numbers, at the levels of a part
pub part_place : (ss : Dims) (xs ps as-four p : List ℕ) → length ss ≤ 4 → length ss ≤ length xs → length ss ≤ length ps → as-four ≡ four (take (length ss) xs)
    → p ≡ four (place_at ss (take (length ss) as-four) ps) → take (length ss) p ≡ place_at ss (take (length ss) xs) (take (length ss) ps)
part_place ss xs ps as-four p few a b e f =
    ap (take (length ss)) (f ∙ ap (λ ls. four (place_at ss (take (length ss) ls) ps)) e) ∙ fact_place ss (length ss) xs ps refl few a b

pub levels_there : (w : ℕ) (xs : List ℕ) → summary.Sound w xs → w ≤ length xs
levels_there w xs s = omega (arith, s.whole)
