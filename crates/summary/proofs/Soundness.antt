-- A row stays sound as facts come and go: places keep their width, and the table keeps within the row. Assumes nothing.
use Rattle.std.proofs.Common.{◌≡◌, ℕ, zero, suc, ◌+◌, ◌*◌, ◌<◌, ◌≤◌, Bool, true, false, cond, leb, List, [], ◌∷◌, length, take, drop, sym, ap, ◌∙◌, inl, inr, arith, length-drop, length-take}
use Rattle.std.proofs.lemmas.List.{length-set}
use Rattle.std.proofs.lemmas.Bool.{cases_Bool, leb-true, leb-false, or_cases, true≢false}
use Rattle.hierarchy.specs.Dimensions.{Row}
use Rattle.hierarchy.specs.Levels.{same}
use Rattle.hierarchy.proofs.Parts.{part_at, place_le}
use Rattle.totals.specs.Tables.{Cell, Measure, Table, put, take_out, join, less}
use Rattle.summary.specs.Memory.{stride, start, cell_in, count_in, table_in, holding, Whole, Wide, Sound, has_room, held, Stands, cell_of, put_in, can_put}
use Rattle.summary.specs.declared.group.Group.{Group}
use Rattle.hierarchy.proofs.Rows.{same_is}
use Rattle.totals.proofs.Order.{order}
use Rattle.totals.proofs.Put.{put_none, put_same, put_front, put_on, put_length_most, take_out_last, take_out_less, take_out_on, take_out_none, in_order_put, in_order_take_out, none_empty_put, none_empty_take_out}
use Rattle.summary.proofs.Rows.{table_length, group_end}
use Rattle.summary.proofs.Spots.{put_stands}
use Rattle.summary.proofs.Holdings.{table_holding, sound_holding}

pub wide_more : (w : ℕ) (g : Cell) (gs : Table) → length g.place ≡ w → Wide w gs → Wide w (g ∷ gs)
wide_more w g gs a b zero d h = a
wide_more w g gs a b (suc i) d h = b i d (omega arith)

wide_first : (w : ℕ) (g : Cell) (gs : Table) → Wide w (g ∷ gs) → length g.place ≡ w
wide_first w g gs h = h zero g (omega arith)

wide_rest : (w : ℕ) (g : Cell) (gs : Table) → Wide w (g ∷ gs) → Wide w gs
wide_rest w g gs h i d l = h (suc i) d (omega arith)

pub wide_none : (w : ℕ) → Wide w []
wide_none w i d h = absurd (omega arith)

-- what is read from a row has its width
pub wide_table : (w : ℕ) (xs : List ℕ) → Whole w xs → Wide w (table_in w xs)
wide_table w xs h i d l =
    let n = table_length w xs in
    let e = group_end w (count_in w xs) i (length xs) h (omega arith) in
    let ys = drop (w + 1) xs in
    let s = stride w in
    rw (part_at (cell_in w) s i (count_in w xs) ys d (omega arith))
    (omega (
      arith,
      length-take w (take s (drop (s * i) ys)),
      length-take s (drop (s * i) ys),
      length-drop (s * i) ys,
      length-drop (w + 1) xs,
    ))

pub wide_put : (w : ℕ) (p : Row) (m : Measure) (t : Table) → length p ≡ w → Wide w t → Wide w (put p m t)
wide_put w p m [] a h = rw (put_none p m) (wide_more w (record { place = p; measure = m }) [] a h)
wide_put w p m (g ∷ gs) a h =
    let first = wide_first w g gs h in
    let rest = wide_rest w g gs h in
    elim (order p g.place) [
      | inl e ↦ rw (put_same p m g gs e) (wide_more w (record { place = g.place; measure = join g.measure m }) gs first rest)
      | inr s ↦ elim s [
        | inl e ↦ rw (put_front p m g gs e) (wide_more w (record { place = p; measure = m }) (g ∷ gs) a h)
        | inr e ↦ rw (put_on p m g gs e) (wide_more w g (put p m gs) first (wide_put w p m gs a rest))
      ]
    ]

-- what take_out does to the first group, and what stays true of all
wide_take_out_more : (w : ℕ) (p : Row) (a : ℕ) (g : Cell) (gs : Table) → Wide w (g ∷ gs) → Wide w (take_out p a gs)
    → length (take_out p a gs) ≤ length gs → Wide w (take_out p a (g ∷ gs)) × (length (take_out p a (g ∷ gs)) ≤ length (g ∷ gs))
wide_take_out_more w p a g gs h r l =
    let first = wide_first w g gs h in
    let rest = wide_rest w g gs h in
    elim (cases_Bool (same p g.place)) [
      | inl e ↦ elim (cases_Bool (leb g.measure.count 1)) [
        | inl k ↦ rw (take_out_last p a g gs (same_is p g.place e) (leb-true _ _ k)) (rest, omega arith)
        | inr k ↦
            rw (take_out_less p a g gs (same_is p g.place e) (leb-false _ _ k))
            (wide_more w (record { place = g.place; measure = less a g.measure }) gs first rest, omega arith)
      ]
      | inr e ↦ rw (take_out_on p a g gs e) (wide_more w g (take_out p a gs) first r, omega arith)
    ]

pub wide_take_out : (w : ℕ) (p : Row) (a : ℕ) (t : Table) → Wide w t → Wide w (take_out p a t) × (length (take_out p a t) ≤ length t)
wide_take_out w p a [] h = rw (take_out_none p a) (h, omega arith)
wide_take_out w p a (g ∷ gs) h =
    let r = wide_take_out w p a gs (wide_rest w g gs h) in wide_take_out_more w p a g gs h r.0 r.1

-- where there is a group, it stands somewhere
held_where : (p : Row) (t : Table) → held p t ≡ true → (i : ℕ) × Stands p t i
unfolding held
held_where p [] h = absurd (true≢false (sym h))
held_where p (g ∷ gs) h =
    elim (or_cases (same p g.place) (held p gs) h) [
      | inl e ↦ (0, (omega arith, sym (same_is p g.place e)))
      | inr e ↦ let r = held_where p gs e in (suc r.0, (omega (arith, r.1.0), r.1.1))
    ]

-- the table keeps within the row
pub put_within : (w : ℕ) (g : Group) (xs : List ℕ) → Sound w xs → can_put w g xs ≡ true → start w (length (put_in w g xs)) ≤ length xs
put_within w g xs s h =
    let p = (cell_of w g).place in
    let m = (cell_of w g).measure in
    let t = table_in w xs in
    let n = table_length w xs in
    elim (or_cases (held p t) (has_room w xs) h) [
      | inl e ↦
          let at = held_where p t e in
          let is = ap length (put_stands p m t at.0 s.ordered at.1) in
          let same_length : length (put p m t) ≡ count_in w xs = is ∙ (length-set t at.0 _ ∙ n) in
          rw same_length s.whole
      | inr e ↦
          let room = leb-true (start w (count_in w xs + 1)) (length xs) e in
          let most = put_length_most p m t in
          let k = place_le (stride w) (length (put p m t)) (count_in w xs + 1) (omega arith) in
          omega (arith, room)
    ]

module _ (w : ℕ) (g : Group) (xs : List ℕ) (s : Sound w xs) (long : length (cell_of w g).place ≡ w) (can : can_put w g xs ≡ true) where
  wide-put-in : Wide w (put_in w g xs)
  wide-put-in = wide_put w _ _ (table_in w xs) long (wide_table w xs s.whole)

  pub table_put : table_in w (holding w (put_in w g xs) xs) ≡ put_in w g xs
  table_put = table_holding w (put_in w g xs) xs wide-put-in (put_within w g xs s can)

  pub sound_put : 0 < g.count → Sound w (holding w (put_in w g xs) xs)
  sound_put some =
      sound_holding w (put_in w g xs) xs wide-put-in (put_within w g xs s can) (in_order_put _ _ (table_in w xs) s.ordered)
      (none_empty_put _ _ (table_in w xs) some s.filled)

module _ (w : ℕ) (p : Row) (a : ℕ) (xs : List ℕ) (s : Sound w xs) where
  taken : Wide w (take_out p a (table_in w xs)) × (length (take_out p a (table_in w xs)) ≤ length (table_in w xs))
  taken = wide_take_out w p a (table_in w xs) (wide_table w xs s.whole)

  taken-within : start w (length (take_out p a (table_in w xs))) ≤ length xs
  taken-within =
      let n = table_length w xs in
      let k = place_le (stride w) (length (take_out p a (table_in w xs))) (count_in w xs) (omega (arith, taken.1)) in
      let whole = s.whole in
      omega arith

  pub table_take : table_in w (holding w (take_out p a (table_in w xs)) xs) ≡ take_out p a (table_in w xs)
  table_take = table_holding w (take_out p a (table_in w xs)) xs taken.0 taken-within

  pub sound_take : Sound w (holding w (take_out p a (table_in w xs)) xs)
  sound_take =
      sound_holding w (take_out p a (table_in w xs)) xs taken.0 taken-within (in_order_take_out p a (table_in w xs) s.ordered)
      (none_empty_take_out p a (table_in w xs) s.filled)

-- as the contracts say it
pub sound_put_kept : (w : ℕ) (g : Group) (xs ys : List ℕ) (r : Bool) → Sound w xs → length (cell_of w g).place ≡ w → 0 < g.count
    → r ≡ can_put w g xs → ys ≡ cond r (holding w (put_in w g xs) xs) xs → Sound w ys
sound_put_kept w g xs ys true s long some told after = rw after (sound_put w g xs s long (sym told) some)
sound_put_kept w g xs ys false s long some told after = rw after s

pub sound_take_kept : (w : ℕ) (p : Row) (a : ℕ) (xs ys : List ℕ) (r : Bool) → Sound w xs
    → ys ≡ cond r (holding w (take_out p a (table_in w xs)) xs) xs → Sound w ys
sound_take_kept w p a xs ys true s after = rw after (sound_take w p a xs s)
sound_take_kept w p a xs ys false s after = rw after s
