-- What it is to put facts into a table and to take one out, for any table, sorted or not. Everything else cites these equations
-- and does not unfold the definitions. Assumes nothing.
use Rattle.std.proofs.Common.{◌≡◌, ℕ, zero, suc, ◌+◌, ◌<◌, ◌≤◌, true, false, cond, leb, ◌⊎◌, [], ◌∷◌, ◌++◌, length, get_or, sym, refl, ap, subst, inl, inr, add_assoc, add_comm, arith}
use Rattle.std.proofs.lemmas.Bool.{le-leb, lt-leb, leb-true, leb-false, cases_Bool}
use Rattle.hierarchy.specs.Dimensions.{Dims, Row}
use Rattle.hierarchy.specs.Levels.{same}
use Rattle.hierarchy.specs.Places.{place_up}
use Rattle.totals.specs.Tables.{Measure, Cell, Table, one, join, less, before, put, take_out, rolled}
use Rattle.totals.specs.Counts.{nothing, at, total}
use Rattle.totals.specs.Promises.{InOrder, NoneEmpty}
use Rattle.hierarchy.proofs.Rows.{same_is, is_same}
use Rattle.totals.proofs.Order.{before_trans, before_not_same, before_not_same_back, before_not_back, order}

pub measure_is : (m n : Measure) → m.count ≡ n.count → m.sum ≡ n.sum → m ≡ n
measure_is m n a b =
    let e : ◌≡◌ {A = Measure} (record { count = m.count; sum = m.sum }) (record { count = n.count; sum = n.sum }) = cc in e

-- groups together, in any order
pub join_comm : (m n : Measure) → join m n ≡ join n m
join_comm m n = measure_is _ _ (add_comm m.count n.count) (add_comm m.sum n.sum)

pub join_assoc : (m n k : Measure) → join (join m n) k ≡ join m (join n k)
join_assoc m n k = measure_is _ _ (add_assoc m.count n.count k.count) (add_assoc m.sum n.sum k.sum)

-- the four equations of put: none is there, one at the place, one that comes after it, one that comes before it
pub put_none : (p : Row) (m : Measure) → put p m [] ≡ record { place = p; measure = m } ∷ []
unfolding put
put_none p m = refl

pub put_same : (p : Row) (m : Measure) (g : Cell) (gs : Table) → p ≡ g.place
    → put p m (g ∷ gs) ≡ record { place = g.place; measure = join g.measure m } ∷ gs
unfolding put
put_same p m g gs h = rw (is_same p g.place h)

pub put_front : (p : Row) (m : Measure) (g : Cell) (gs : Table) → before p g.place ≡ true
    → put p m (g ∷ gs) ≡ record { place = p; measure = m } ∷ g ∷ gs
unfolding put
put_front p m g gs h = rw (before_not_same p g.place h, h)

pub put_on : (p : Row) (m : Measure) (g : Cell) (gs : Table) → before g.place p ≡ true → put p m (g ∷ gs) ≡ g ∷ put p m gs
unfolding put
put_on p m g gs h = rw (before_not_same_back g.place p h, before_not_back g.place p h)

-- the three of take_out: the last fact at the place goes, one of several goes, the place comes later
pub take_out_last : (p : Row) (a : ℕ) (g : Cell) (gs : Table) → p ≡ g.place → g.measure.count ≤ 1 → take_out p a (g ∷ gs) ≡ gs
unfolding take_out
take_out_last p a g gs h k = rw (is_same p g.place h, le-leb g.measure.count 1 k)

pub take_out_less : (p : Row) (a : ℕ) (g : Cell) (gs : Table) → p ≡ g.place → 1 < g.measure.count
    → take_out p a (g ∷ gs) ≡ record { place = g.place; measure = less a g.measure } ∷ gs
unfolding take_out
take_out_less p a g gs h k = rw (is_same p g.place h, lt-leb g.measure.count 1 k)

pub take_out_on : (p : Row) (a : ℕ) (g : Cell) (gs : Table) → same p g.place ≡ false → take_out p a (g ∷ gs) ≡ g ∷ take_out p a gs
unfolding take_out
take_out_on p a g gs h = rw h

pub take_out_none : (p : Row) (a : ℕ) → take_out p a [] ≡ []
unfolding take_out
take_out_none p a = refl

-- put twice at one place is put once
pub put_twice : (p : Row) (m n : Measure) (t : Table) → put p m (put p n t) ≡ put p (join n m) t
put_twice p m n [] = cc (put_none p n, put_same p m (record { place = p; measure = n }) [] refl, put_none p (join n m))
put_twice p m n (g ∷ gs) =
    elim (order p g.place) [
      | inl e ↦
          let a = put_same p n g gs e in
          let b = put_same p m (record { place = g.place; measure = join g.measure n }) gs e in
          let c = put_same p (join n m) g gs e in
          let d = join_assoc g.measure n m in
          cc
      | inr s ↦ elim s [
        | inl e ↦
            cc (put_front p n g gs e, put_same p m (record { place = p; measure = n }) (g ∷ gs) refl, put_front p (join n m) g gs e)
        | inr e ↦ cc (put_on p n g gs e, put_on p m g (put p n gs) e, put_on p (join n m) g gs e, put_twice p m n gs)
      ]
    ]

-- and the order in which two are put does not matter
commutes_before : (p q : Row) (m n : Measure) (t : Table) → before p q ≡ true → put p m (put q n t) ≡ put q n (put p m t)
commutes_before p q m n [] h =
    cc (
      put_none p m,
      put_none q n,
      put_front p m (record { place = q; measure = n }) [] h,
      put_on q n (record { place = p; measure = m }) [] h,
    )
commutes_before p q m n (g ∷ gs) h =
    elim (order p g.place) [
      | inl e ↦
          let k : before g.place q ≡ true = subst (λ (r : Row). before r q ≡ true) e h in
          cc (
            put_on q n g gs k,
            put_same p m g (put q n gs) e,
            put_same p m g gs e,
            put_on q n (record { place = g.place; measure = join g.measure m }) gs k,
          )
      | inr s ↦ elim s [
        | inl e ↦
            let on = put_on q n (record { place = p; measure = m }) (g ∷ gs) h in
            let front = put_front p m g gs e in
            elim (order q g.place) [
              | inl k ↦
                  cc (
                    on,
                    front,
                    put_same q n g gs k,
                    put_front p m (record { place = g.place; measure = join g.measure n }) gs e,
                  )
              | inr r ↦ elim r [
                | inl k ↦ cc (on, front, put_front q n g gs k, put_front p m (record { place = q; measure = n }) (g ∷ gs) h)
                | inr k ↦ cc (on, front, put_on q n g gs k, put_front p m g (put q n gs) e)
              ]
            ]
        | inr e ↦
            let k = before_trans g.place p q e h in
            cc (put_on q n g gs k, put_on p m g (put q n gs) e, put_on p m g gs e, put_on q n g (put p m gs) k, commutes_before p q m n gs h)
      ]
    ]

pub put_commutes : (p q : Row) (m n : Measure) (t : Table) → put p m (put q n t) ≡ put q n (put p m t)
put_commutes p q m n t =
    elim (order p q) [
      | inl e ↦ cc (put_twice p m n t, put_twice p n m t, join_comm m n)
      | inr s ↦ elim s [ inl e ↦ commutes_before p q m n t e | inr e ↦ sym (commutes_before q p n m t e) ]
    ]

-- there is one group more, or there are as many as before
pub put_length : (p : Row) (m : Measure) (t : Table) → (length (put p m t) ≡ length t) ⊎ (length (put p m t) ≡ length t + 1)
put_length p m [] = inr (rw (put_none p m) refl)
put_length p m (g ∷ gs) =
    elim (order p g.place) [
      | inl e ↦ inl (rw (put_same p m g gs e) refl)
      | inr s ↦ elim s [
        | inl e ↦ inr (rw (put_front p m g gs e) (omega arith))
        | inr e ↦ rw (put_on p m g gs e)
            (elim (put_length p m gs) [ inl k ↦ inl (ap suc k) | inr k ↦ inr (omega (arith, k)) ])
      ]
    ]

pub put_length_most : (p : Row) (m : Measure) (t : Table) → length (put p m t) ≤ length t + 1
put_length_most p m t = elim (put_length p m t) [ inl k ↦ omega (arith, k) | inr k ↦ omega (arith, k) ]

-- what take_out does to the first group: it goes, it gets less, or it stays
take_out_ways : (p : Row) (a : ℕ) (g : Cell) (gs : Table)
    → (take_out p a (g ∷ gs) ≡ gs)
    ⊎ (((1 < g.measure.count) × (take_out p a (g ∷ gs) ≡ record { place = g.place; measure = less a g.measure } ∷ gs))
    ⊎ (take_out p a (g ∷ gs) ≡ g ∷ take_out p a gs))
take_out_ways p a g gs =
    elim (cases_Bool (same p g.place)) [
      | inl e ↦ elim (cases_Bool (leb g.measure.count 1)) [
        | inl k ↦ inl (take_out_last p a g gs (same_is p g.place e) (leb-true _ _ k))
        | inr k ↦ inr (inl (leb-false _ _ k, take_out_less p a g gs (same_is p g.place e) (leb-false _ _ k)))
      ]
      | inr e ↦ inr (inr (take_out_on p a g gs e))
    ]

-- In order: the first place comes before all others, and these are in order
abbrev pub Ahead : Row → Table → Type 0
Ahead q t = (j : ℕ) (d : Cell) → j < length t → before q (get_or t j d).place ≡ true

ahead_more : (q : Row) (g : Cell) (gs : Table) → before q g.place ≡ true → Ahead q gs → Ahead q (g ∷ gs)
ahead_more q g gs a b zero d h = a
ahead_more q g gs a b (suc j) d h = b j d (omega arith)

pub in_order_none : InOrder []
in_order_none i j d a b = absurd (omega arith)

pub in_order_more : (g : Cell) (gs : Table) → Ahead g.place gs → InOrder gs → InOrder (g ∷ gs)
in_order_more g gs a b i zero d h k = absurd (omega arith)
in_order_more g gs a b zero (suc j) d h k = a j d (omega arith)
in_order_more g gs a b (suc i) (suc j) d h k = b i j d (omega arith) (omega arith)

pub in_order_first : (g : Cell) (gs : Table) → InOrder (g ∷ gs) → Ahead g.place gs
in_order_first g gs h j d k = h zero (suc j) d (omega arith) (omega arith)

pub in_order_rest : (g : Cell) (gs : Table) → InOrder (g ∷ gs) → InOrder gs
in_order_rest g gs h i j d a b = h (suc i) (suc j) d (omega arith) (omega arith)

ahead_put : (q p : Row) (m : Measure) (t : Table) → before q p ≡ true → Ahead q t → Ahead q (put p m t)
ahead_put q p m [] h a = rw (put_none p m) (ahead_more q (record { place = p; measure = m }) [] h a)
ahead_put q p m (g ∷ gs) h a =
    let first = a zero g (omega arith) in
    let rest : Ahead q gs = λ j d k. a (suc j) d (omega arith) in
    elim (order p g.place) [
      | inl e ↦ rw (put_same p m g gs e) (ahead_more q (record { place = g.place; measure = join g.measure m }) gs first rest)
      | inr s ↦ elim s [
        | inl e ↦ rw (put_front p m g gs e) (ahead_more q (record { place = p; measure = m }) (g ∷ gs) h a)
        | inr e ↦ rw (put_on p m g gs e) (ahead_more q g (put p m gs) first (ahead_put q p m gs h rest))
      ]
    ]

pub in_order_put : (p : Row) (m : Measure) (t : Table) → InOrder t → InOrder (put p m t)
in_order_put p m [] h = rw (put_none p m) (in_order_more (record { place = p; measure = m }) [] (λ j d k. absurd (omega arith)) h)
in_order_put p m (g ∷ gs) h =
    let first = in_order_first g gs h in
    let rest = in_order_rest g gs h in
    elim (order p g.place) [
      | inl e ↦ rw (put_same p m g gs e) (in_order_more (record { place = g.place; measure = join g.measure m }) gs first rest)
      | inr s ↦ elim s [
        | inl e ↦
            rw (put_front p m g gs e)
            (in_order_more (record { place = p; measure = m }) (g ∷ gs)
            (ahead_more p g gs e (λ j d k. before_trans p g.place (get_or gs j d).place e (first j d k))) h)
        | inr e ↦
            rw (put_on p m g gs e)
            (in_order_more g (put p m gs) (ahead_put g.place p m gs e first) (in_order_put p m gs rest))
      ]
    ]

ahead_take_out : (q p : Row) (a : ℕ) (t : Table) → Ahead q t → Ahead q (take_out p a t)
ahead_take_out q p a [] h = rw (take_out_none p a) h
ahead_take_out q p a (g ∷ gs) h =
    let first = h zero g (omega arith) in
    let rest : Ahead q gs = λ j d k. h (suc j) d (omega arith) in
    elim (take_out_ways p a g gs) [
      | inl e ↦ rw e rest
      | inr s ↦ elim s [
        | inl e ↦ rw e.1 (ahead_more q (record { place = g.place; measure = less a g.measure }) gs first rest)
        | inr e ↦ rw e (ahead_more q g (take_out p a gs) first (ahead_take_out q p a gs rest))
      ]
    ]

pub in_order_take_out : (p : Row) (a : ℕ) (t : Table) → InOrder t → InOrder (take_out p a t)
in_order_take_out p a [] h = rw (take_out_none p a) h
in_order_take_out p a (g ∷ gs) h =
    let first = in_order_first g gs h in
    let rest = in_order_rest g gs h in
    elim (take_out_ways p a g gs) [
      | inl e ↦ rw e rest
      | inr s ↦ elim s [
        | inl e ↦ rw e.1 (in_order_more (record { place = g.place; measure = less a g.measure }) gs first rest)
        | inr e ↦
            rw e (in_order_more g (take_out p a gs) (ahead_take_out g.place p a gs first) (in_order_take_out p a gs rest))
      ]
    ]

-- No group is empty
pub none_empty_none : NoneEmpty []
none_empty_none i d h = absurd (omega arith)

pub none_empty_more : (g : Cell) (gs : Table) → 0 < g.measure.count → NoneEmpty gs → NoneEmpty (g ∷ gs)
none_empty_more g gs a b zero d h = a
none_empty_more g gs a b (suc i) d h = b i d (omega arith)

pub none_empty_first : (g : Cell) (gs : Table) → NoneEmpty (g ∷ gs) → 0 < g.measure.count
none_empty_first g gs h = h zero g (omega arith)

pub none_empty_rest : (g : Cell) (gs : Table) → NoneEmpty (g ∷ gs) → NoneEmpty gs
none_empty_rest g gs h i d k = h (suc i) d (omega arith)

pub none_empty_put : (p : Row) (m : Measure) (t : Table) → 0 < m.count → NoneEmpty t → NoneEmpty (put p m t)
none_empty_put p m [] k h = rw (put_none p m) (none_empty_more (record { place = p; measure = m }) [] k h)
none_empty_put p m (g ∷ gs) k h =
    let first = none_empty_first g gs h in
    let rest = none_empty_rest g gs h in
    elim (order p g.place) [
      | inl e ↦
          rw (put_same p m g gs e)
          (none_empty_more (record { place = g.place; measure = join g.measure m }) gs (omega arith) rest)
      | inr s ↦ elim s [
        | inl e ↦ rw (put_front p m g gs e) (none_empty_more (record { place = p; measure = m }) (g ∷ gs) k h)
        | inr e ↦ rw (put_on p m g gs e) (none_empty_more g (put p m gs) first (none_empty_put p m gs k rest))
      ]
    ]

pub none_empty_take_out : (p : Row) (a : ℕ) (t : Table) → NoneEmpty t → NoneEmpty (take_out p a t)
none_empty_take_out p a [] h = rw (take_out_none p a) h
none_empty_take_out p a (g ∷ gs) h =
    let rest = none_empty_rest g gs h in
    elim (take_out_ways p a g gs) [
      | inl e ↦ rw e rest
      | inr s ↦ elim s [
        | inl e ↦
            rw e.1
            (none_empty_more (record { place = g.place; measure = less a g.measure }) gs (omega (arith, e.0)) rest)
        | inr e ↦ rw e (none_empty_more g (take_out p a gs) (none_empty_first g gs h) (none_empty_take_out p a gs rest))
      ]
    ]

-- Rolled up
pub rolled_none : (ss : Dims) (ls ms : Row) → rolled ss ls ms [] ≡ []
unfolding rolled
rolled_none ss ls ms = refl

pub rolled_more : (ss : Dims) (ls ms : Row) (g : Cell) (gs : Table)
    → rolled ss ls ms (g ∷ gs) ≡ put (place_up ss ls ms g.place) g.measure (rolled ss ls ms gs)
unfolding rolled
rolled_more ss ls ms g gs = refl

-- to put and to roll up commute
pub rolled_put : (ss : Dims) (ls ms : Row) (p : Row) (m : Measure) (t : Table)
    → rolled ss ls ms (put p m t) ≡ put (place_up ss ls ms p) m (rolled ss ls ms t)
rolled_put ss ls ms p m [] = cc (put_none p m, rolled_more ss ls ms (record { place = p; measure = m }) [])
rolled_put ss ls ms p m (g ∷ gs) =
    let r = rolled ss ls ms gs in
    let more = rolled_more ss ls ms g gs in
    elim (order p g.place) [
      | inl e ↦
          cc (
            more,
            put_same p m g gs e,
            rolled_more ss ls ms (record { place = g.place; measure = join g.measure m }) gs,
            put_twice (place_up ss ls ms p) m g.measure r,
          )
      | inr s ↦ elim s [
        | inl e ↦ cc (put_front p m g gs e, rolled_more ss ls ms (record { place = p; measure = m }) (g ∷ gs))
        | inr e ↦
            cc (
              more,
              put_on p m g gs e,
              rolled_more ss ls ms g (put p m gs),
              rolled_put ss ls ms p m gs,
              put_commutes (place_up ss ls ms p) (place_up ss ls ms g.place) m g.measure r,
            )
      ]
    ]

-- one group more at the end: code goes from the first group to the last
pub rolled_push : (ss : Dims) (ls ms : Row) (t : Table) (g : Cell)
    → rolled ss ls ms (t ++ g ∷ []) ≡ put (place_up ss ls ms g.place) g.measure (rolled ss ls ms t)
rolled_push ss ls ms [] g = rolled_more ss ls ms g []
rolled_push ss ls ms (x ∷ xs) g =
    cc (
      rolled_more ss ls ms x (xs ++ g ∷ []),
      rolled_more ss ls ms x xs,
      rolled_push ss ls ms xs g,
      put_commutes (place_up ss ls ms g.place) (place_up ss ls ms x.place) g.measure x.measure (rolled ss ls ms xs),
    )

pub rolled_in_order : (ss : Dims) (ls ms : Row) (t : Table) → InOrder (rolled ss ls ms t)
rolled_in_order ss ls ms [] = rw (rolled_none ss ls ms) in_order_none
rolled_in_order ss ls ms (g ∷ gs) = rw (rolled_more ss ls ms g gs) (in_order_put _ _ _ (rolled_in_order ss ls ms gs))

pub rolled_none_empty : (ss : Dims) (ls ms : Row) (t : Table) → NoneEmpty t → NoneEmpty (rolled ss ls ms t)
rolled_none_empty ss ls ms [] h = rw (rolled_none ss ls ms) h
rolled_none_empty ss ls ms (g ∷ gs) h =
    rw (rolled_more ss ls ms g gs)
    (none_empty_put _ _ _ (none_empty_first g gs h) (rolled_none_empty ss ls ms gs (none_empty_rest g gs h)))

pub rolled_length : (ss : Dims) (ls ms : Row) (t : Table) → length (rolled ss ls ms t) ≤ length t
rolled_length ss ls ms [] = rw (rolled_none ss ls ms) (omega arith)
rolled_length ss ls ms (g ∷ gs) =
    rw (rolled_more ss ls ms g gs)
    (omega (
      arith,
      put_length_most (place_up ss ls ms g.place) g.measure (rolled ss ls ms gs),
      rolled_length ss ls ms gs,
    ))

-- All groups together
pub total_more : (g : Cell) (gs : Table) → total (g ∷ gs) ≡ join g.measure (total gs)
unfolding total
total_more g gs = refl

pub total_none : total [] ≡ nothing
unfolding total
total_none = refl

-- m and n change places before k
pub join_swap : (m n k : Measure) → join m (join n k) ≡ join n (join m k)
join_swap m n k = measure_is _ _ (omega arith) (omega arith)

join_into : (m n k : Measure) → join (join m n) k ≡ join n (join m k)
join_into m n k = measure_is _ _ (omega arith) (omega arith)

pub total_put : (p : Row) (m : Measure) (t : Table) → total (put p m t) ≡ join m (total t)
total_put p m [] = rw (put_none p m) (total_more (record { place = p; measure = m }) [])
total_put p m (g ∷ gs) =
    let more = total_more g gs in
    elim (order p g.place) [
      | inl e ↦
          rw (put_same p m g gs e, total_more (record { place = g.place; measure = join g.measure m }) gs, more)
          (join_into g.measure m (total gs))
      | inr s ↦ elim s [
        | inl e ↦ rw (put_front p m g gs e) (total_more (record { place = p; measure = m }) (g ∷ gs))
        | inr e ↦
            rw (put_on p m g gs e, total_more g (put p m gs), more, total_put p m gs) (join_swap g.measure m (total gs))
      ]
    ]

-- rolling up loses nothing
pub total_rolled : (ss : Dims) (ls ms : Row) (t : Table) → total (rolled ss ls ms t) ≡ total t
total_rolled ss ls ms [] = rw (rolled_none ss ls ms)
total_rolled ss ls ms (g ∷ gs) =
    rw (
      rolled_more ss ls ms g gs,
      total_put (place_up ss ls ms g.place) g.measure (rolled ss ls ms gs),
      total_rolled ss ls ms gs,
      total_more g gs,
    )

-- each group is within the total, so that numbers that hold the total hold each group
pub within_total : (t : Table) (i : ℕ) (d : Cell) → i < length t
    → ((get_or t i d).measure.count ≤ (total t).count) × ((get_or t i d).measure.sum ≤ (total t).sum)
within_total [] i d h = absurd (omega arith)
within_total (g ∷ gs) zero d h = rw (total_more g gs) (omega arith, omega arith)
within_total (g ∷ gs) (suc i) d h =
    let r = within_total gs i d (omega arith) in rw (total_more g gs) (omega (arith, r.0), omega (arith, r.1))

-- At a place
pub at_more : (q : Row) (g : Cell) (gs : Table)
    → at q (g ∷ gs) ≡ cond (same q g.place) (join g.measure (at q gs)) (at q gs)
unfolding at
at_more q g gs = refl

at_same : (q : Row) (g : Cell) (gs : Table) → q ≡ g.place → at q (g ∷ gs) ≡ join g.measure (at q gs)
at_same q g gs h = rw (at_more q g gs, is_same q g.place h)

at_other : (q : Row) (g : Cell) (gs : Table) → same q g.place ≡ false → at q (g ∷ gs) ≡ at q gs
at_other q g gs h = rw (at_more q g gs, h)

-- what is put comes to its place, and no other changes
pub at_put_same : (p : Row) (m : Measure) (t : Table) → at p (put p m t) ≡ join m (at p t)
at_put_same p m [] = rw (put_none p m) (at_same p (record { place = p; measure = m }) [] refl)
at_put_same p m (g ∷ gs) =
    elim (order p g.place) [
      | inl e ↦
          rw (put_same p m g gs e, at_same p (record { place = g.place; measure = join g.measure m }) gs e, at_same p g gs e)
          (join_into g.measure m (at p gs))
      | inr s ↦ elim s [
        | inl e ↦ rw (put_front p m g gs e) (at_same p (record { place = p; measure = m }) (g ∷ gs) refl)
        | inr e ↦
            let k = before_not_same_back g.place p e in
            rw (put_on p m g gs e, at_other p g (put p m gs) k, at_other p g gs k) (at_put_same p m gs)
      ]
    ]

pub at_put_other : (q p : Row) (m : Measure) (t : Table) → same q p ≡ false → at q (put p m t) ≡ at q t
at_put_other q p m [] h = rw (put_none p m) (at_other q (record { place = p; measure = m }) [] h)
at_put_other q p m (g ∷ gs) h =
    elim (order p g.place) [
      | inl e ↦
          let k : same q g.place ≡ false = rw e at h in
          rw (put_same p m g gs e, at_other q (record { place = g.place; measure = join g.measure m }) gs k, at_other q g gs k)
      | inr s ↦ elim s [
        | inl e ↦ rw (put_front p m g gs e) (at_other q (record { place = p; measure = m }) (g ∷ gs) h)
        | inr e ↦ cc (put_on p m g gs e, at_more q g (put p m gs), at_more q g gs, at_put_other q p m gs h)
      ]
    ]

-- what was put goes again
pub take_out_put : (p : Row) (a : ℕ) (t : Table) → NoneEmpty t → take_out p a (put p (one a) t) ≡ t
take_out_put p a [] h = rw (put_none p (one a)) (take_out_last p a (record { place = p; measure = one a }) [] refl (omega arith))
take_out_put p a (g ∷ gs) h =
    elim (order p g.place) [
      | inl e ↦
          let k = none_empty_first g gs h in
          let back : less a (join g.measure (one a)) ≡ g.measure = measure_is _ _ (omega arith) (omega arith) in
          rw (
            put_same p (one a) g gs e,
            take_out_less p a (record { place = g.place; measure = join g.measure (one a) }) gs e (omega arith),
            back,
          )
      | inr s ↦ elim s [
        | inl e ↦
            rw (put_front p (one a) g gs e) (take_out_last p a (record { place = p; measure = one a }) (g ∷ gs) refl (omega arith))
        | inr e ↦
            rw (
              put_on p (one a) g gs e,
              take_out_on p a g (put p (one a) gs) (before_not_same_back g.place p e),
              take_out_put p a gs (none_empty_rest g gs h),
            )
      ]
    ]
