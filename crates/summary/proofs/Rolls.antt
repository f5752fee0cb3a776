-- A table rolled up group by group, from the first to the last, into another row: one turn. Assumes nothing.
use Rattle.std.proofs.Common.{◌≡◌, ℕ, zero, suc, ◌+◌, ◌*◌, ◌^◌, ◌<◌, ◌≤◌, Bool, true, false, cond, List, [], ◌∷◌, ◌++◌, length, get_or, take, drop, set, sym, ap, ◌∙◌, inl, inr, mul-zero, arith, length-take}
use Rattle.std.proofs.lemmas.List.{take_more, take_at, set_at, drop_more, drop_at, drop-drop, get_or-take}
use Rattle.std.proofs.lemmas.Bool.{le-leb, or_right}
use Rattle.hierarchy.specs.Dimensions.{Dims, Row}
use Rattle.hierarchy.specs.Levels.{same}
use Rattle.hierarchy.specs.Places.{place_up}
use Rattle.hierarchy.proofs.Laws.{place_up_length}
use Rattle.hierarchy.proofs.Parts.{place_le}
use Rattle.totals.specs.Tables.{Cell, Measure, Table, put, rolled, join}
use Rattle.totals.specs.Counts.{at, total}
use Rattle.totals.specs.Promises.{NoneEmpty}
use Rattle.summary.specs.Memory.{stride, start, table_in, none, row_over, holding, Wide, Sound, has_room, held, cell_of, put_in, can_put, PutFits}
use Rattle.summary.specs.declared.group.Group.{Group}
use Rattle.totals.proofs.Put.{put_length, rolled_none, rolled_more, rolled_push, rolled_in_order, rolled_none_empty, rolled_length, total_more, total_rolled, join_swap}
use Rattle.summary.proofs.Holdings.{count_holding, table_holding, length_holding, sound_holding, holding_again}
use Rattle.summary.proofs.Soundness.{wide_put}

-- what a table has at a place is within the total
pub at_within : (p : Row) (t : Table) → ((at p t).count ≤ (total t).count) × ((at p t).sum ≤ (total t).sum)
unfolding at total
at_within p [] = (omega arith, omega arith)
at_within p (g ∷ gs) = let r = at_within p gs in either (same p g.place) g.measure (at p gs) (total gs) r.0 r.1
  where
    either : (b : Bool) (m n k : Measure) → n.count ≤ k.count → n.sum ≤ k.sum
        → ((cond b (join m n) n).count ≤ (join m k).count) × ((cond b (join m n) n).sum ≤ (join m k).sum)
    either true m n k h l = (omega arith, omega arith)
    either false m n k h l = (omega arith, omega arith)

-- the total of the groups so far
total_push : (t : Table) (g : Cell) → total (t ++ (g ∷ [])) ≡ join g.measure (total t)
total_push [] g = total_more g []
total_push (x ∷ t) g = rw (total_more x (t ++ (g ∷ [])), total_push t g, total_more x t) (join_swap x.measure g.measure (total t))

total_take : (i : ℕ) (t : Table) → ((total (take i t)).count ≤ (total t).count) × ((total (take i t)).sum ≤ (total t).sum)
unfolding total
total_take zero t = (omega arith, omega arith)
total_take (suc i) [] = (omega arith, omega arith)
total_take (suc i) (g ∷ gs) = let r = total_take i gs in (omega (arith, r.0), omega (arith, r.1))

-- places keep their width
pub wide_take : (w i : ℕ) (t : Table) → Wide w t → Wide w (take i t)
wide_take w i t h j d l =
    let m = length-take i t in rw (get_or-take i t j d (omega arith)) (h j d (omega arith))

pub wide_rolled : (w : ℕ) (ss : Dims) (ls ms : Row) (t : Table) → length ss ≡ w → length ls ≡ w → length ms ≡ w → Wide w t → Wide w (rolled ss ls ms t)
wide_rolled w ss ls ms [] a b c h = rw (rolled_none ss ls ms) h
wide_rolled w ss ls ms (g ∷ gs) a b c h =
    let first = h zero g (omega arith) in
    let long : length (place_up ss ls ms g.place) ≡ w = place_up_length ss ls ms g.place (omega arith) (omega arith) (omega arith) ∙ a in
    rw (rolled_more ss ls ms g gs) (wide_put w _ _ _ long (wide_rolled w ss ls ms gs a b c (λ i d l. h (suc i) d (omega arith))))

none_empty_take : (i : ℕ) (t : Table) → NoneEmpty t → NoneEmpty (take i t)
none_empty_take i t h j d l = let m = length-take i t in rw (get_or-take i t j d (omega arith)) (h j d (omega arith))

-- one turn: the i-th group of t, taken up, comes to the row that holds those before it
module _ (ss : Dims) (ls ms : Row) (t : Table) (xs : List ℕ)
    (w : ℕ) (a : length ss ≡ w) (b : length ls ≡ w) (c : length ms ≡ w) (wide : Wide w t) (filled : NoneEmpty t)
    (room : start w (length t) ≤ length xs) (i : ℕ) (l : i < length t) where
  so_far : Table
  so_far = rolled ss ls ms (take i t)

  so-far-wide : Wide w so_far
  unfolding so_far
  so-far-wide = wide_rolled w ss ls ms (take i t) a b c (wide_take w i t wide)

  so-far-few : length so_far ≤ i
  unfolding so_far
  so-far-few = omega (arith, rolled_length ss ls ms (take i t), length-take i t)

  so-far-room : start w (length so_far + 1) ≤ length xs
  so-far-room = let k = place_le (stride w) (length so_far + 1) (length t) (omega (arith, so-far-few)) in omega (arith, k)

  so-far-within : start w (length so_far) ≤ length xs
  so-far-within = let k = place_le (stride w) (length so_far) (length t) (omega (arith, so-far-few)) in omega (arith, k)

  so-far-table : table_in w (holding w so_far xs) ≡ so_far
  so-far-table = table_holding w so_far xs so-far-wide so-far-within

  pub turn_sound : Sound w (holding w (rolled ss ls ms (take i t)) xs)
  unfolding so_far
  turn_sound =
      sound_holding w so_far xs so-far-wide so-far-within (rolled_in_order ss ls ms (take i t))
      (rolled_none_empty ss ls ms (take i t) (none_empty_take i t filled))

  module _ (g : Group) (at_place : (cell_of w g).place ≡ place_up ss ls ms (get_or t i none).place)
      (as-much : (cell_of w g).measure ≡ (get_or t i none).measure) where
    -- there is room
    pub turn_room : can_put w g (holding w (rolled ss ls ms (take i t)) xs) ≡ true
    unfolding so_far
    turn_room =
        let n = count_holding w so_far xs so-far-wide so-far-within in
        let m = length_holding w so_far xs so-far-wide so-far-within in
        let free : has_room w (holding w so_far xs) ≡ true = rw (n, m) (le-leb (start w (length so_far + 1)) (length xs) so-far-room) in
        or_right (held (cell_of w g).place (table_in w (holding w so_far xs))) (has_room w (holding w so_far xs)) free

    -- the numbers hold it
    pub turn_fits : (total t).count < 2 ^ 64 → (total t).sum < 2 ^ 64 → PutFits w g (holding w (rolled ss ls ms (take i t)) xs)
    unfolding so_far
    turn_fits p q =
        let d = get_or t i none in
        let e₁ = at_within (cell_of w g).place so_far in
        let e₂ = total_rolled ss ls ms (take i t) in
        let e₃ : total (take (i + 1) t) ≡ join d.measure (total (take i t)) = ap total (take_more t i none l) ∙ total_push (take i t) d in
        let e₄ = total_take (i + 1) t in
        let c₁ : g.count ≡ d.measure.count = ap (λ (m : Measure). m.count) as-much in
        let c₂ : g.sum ≡ d.measure.sum = ap (λ (m : Measure). m.sum) as-much in
        let f₁ = ap (λ (m : Measure). m.count) e₃ in
        let f₂ = ap (λ (m : Measure). m.sum) e₃ in
        let h₁ = ap (λ (m : Measure). m.count) e₂ in
        let h₂ = ap (λ (m : Measure). m.sum) e₂ in
        rw so-far-table (omega (arith, e₁.0, e₄.0), omega (arith, e₁.1, e₄.1))

    -- and then the row holds one group more, rolled up
    pub turn_again : holding w (put_in w g (holding w (rolled ss ls ms (take i t)) xs)) (holding w (rolled ss ls ms (take i t)) xs)
        ≡ holding w (rolled ss ls ms (take (i + 1) t)) xs
    unfolding so_far
    turn_again =
        let d = get_or t i none in
        let more : rolled ss ls ms (take (i + 1) t) ≡ put (place_up ss ls ms d.place) d.measure so_far =
        ap (rolled ss ls ms) (take_more t i none l) ∙ rolled_push ss ls ms (take i t) d in
        let is : put_in w g (holding w so_far xs) ≡ rolled ss ls ms (take (i + 1) t) = rw (so-far-table, at_place, as-much) (sym more) in
        let least : length so_far ≤ length (rolled ss ls ms (take (i + 1) t)) =
        rw more (elim (put_length (place_up ss ls ms d.place) d.measure so_far) [ inl k ↦ omega (arith, k) | inr k ↦ omega (arith, k) ]) in
        rw is (holding_again w so_far xs so-far-wide so-far-within (rolled ss ls ms (take (i + 1) t)) least)

-- the row before the first turn: levels, no group, and behind them what was there
pub begun : (w : ℕ) (ms xs ys : List ℕ) → length ms ≡ w → w < length xs → ys ≡ ms ++ (0 ∷ drop (w + 1) xs) → ys ≡ holding w [] ys
begun w ms xs ys l h e =
    let a : take w ys ≡ ms = rw e (take_at ms (0 ∷ drop (w + 1) xs) w l) in
    let b : start w 0 ≡ w + 1 = omega (arith, mul-zero (stride w)) in
    let c : drop (w + 1) ys ≡ drop (w + 1) xs =
    rw e (sym (drop-drop 1 w (ms ++ (0 ∷ drop (w + 1) xs))) ∙ ap (drop 1) (drop_at ms (0 ∷ drop (w + 1) xs) w l)) in
    rw (a, b, c) e

-- and the row after the last
pub ended : (w : ℕ) (t : Table) (ms xs ys : List ℕ) → length ms ≡ w → ys ≡ ms ++ (0 ∷ drop (w + 1) xs)
    → holding w t ys ≡ row_over w ms t xs
ended w t ms xs ys l e =
    let k = stride w * length t in
    let a : take w ys ≡ ms = rw e (take_at ms (0 ∷ drop (w + 1) xs) w l) in
    let c : drop (w + 1) ys ≡ drop (w + 1) xs =
    rw e (sym (drop-drop 1 w (ms ++ (0 ∷ drop (w + 1) xs))) ∙ ap (drop 1) (drop_at ms (0 ∷ drop (w + 1) xs) w l)) in
    let b : drop (w + 1 + k) ys ≡ drop (w + 1 + k) xs = sym (drop-drop k (w + 1) ys) ∙ (ap (drop k) c ∙ drop-drop k (w + 1) xs) in
    rw (a, b)

-- levels are written, and then the count of no group
pub headed : (w : ℕ) (xs ys : List ℕ) → w < length xs → length ys ≡ w → set (ys ++ drop w xs) w 0 ≡ ys ++ (0 ∷ drop (w + 1) xs)
headed w xs ys h l = rw (drop_more xs w 0 h) (set_at ys (get_or xs w 0) (drop (w + 1) xs) 0 w l)
