-- The promises of Promises.antt, proved. Assumes nothing.
use Rattle.std.proofs.Common.{◌≡◌, ◌+◌, ◌<◌, true, false, cond, eqb, List, [], ◌∷◌, ◌++◌, refl, inl, inr, arith}
use Rattle.std.proofs.lemmas.Bool.{eqb-true, eq-eqb, and_parts, and_from, cases_Bool}
use Rattle.hierarchy.specs.Dimensions.{Dims, Row}
use Rattle.hierarchy.specs.Levels.{same}
use Rattle.hierarchy.specs.Facts.{Entry, same_fact, copies, without}
use Rattle.hierarchy.specs.Places.{place_up, place_at}
use Rattle.hierarchy.proofs.Laws.{place_up_up, place_at_up}
use Rattle.totals.specs.Tables.{one, join, put, table, rolled}
use Rattle.totals.specs.Counts.{nothing, at, belonging, total, all_facts}
use Rattle.totals.specs.Promises.{RolledRight, RolledTwice, AnyOrder, InOrder, NoneEmpty, AddsUp, CoarserSmaller, TakenBack}
use Rattle.hierarchy.proofs.Rows.{same_is, same_refl}
use Rattle.totals.proofs.Put.{put_commutes, in_order_none, in_order_put, none_empty_none, none_empty_put, rolled_none, rolled_more, rolled_put, rolled_length, total_none, total_put, at_put_same, at_put_other, take_out_put}

-- the equations of table
pub table_none : (ss : Dims) (ls : Row) → table ss ls [] ≡ []
unfolding table
table_none ss ls = refl

pub table_more : (ss : Dims) (ls : Row) (e : Entry) (es : List Entry)
    → table ss ls (e ∷ es) ≡ put (place_at ss ls e.place) (one e.amount) (table ss ls es)
unfolding table
table_more ss ls e es = refl

-- one fact more at the end
pub table_push : (ss : Dims) (ls : Row) (es : List Entry) (e : Entry)
    → table ss ls (es ++ e ∷ []) ≡ put (place_at ss ls e.place) (one e.amount) (table ss ls es)
table_push ss ls [] e = table_more ss ls e []
table_push ss ls (x ∷ xs) e =
    cc (
      table_more ss ls x (xs ++ e ∷ []),
      table_more ss ls x xs,
      table_push ss ls xs e,
      put_commutes (place_at ss ls e.place) (place_at ss ls x.place) (one e.amount) (one x.amount) (table ss ls xs),
    )

-- Rolled up
pub rolled_right : RolledRight
rolled_right ss ls ms [] h = rw (table_none ss ls, rolled_none ss ls ms, table_none ss ms)
rolled_right ss ls ms (e ∷ es) h =
    cc (
      table_more ss ls e es,
      table_more ss ms e es,
      place_at_up ss ls ms e.place h,
      rolled_right ss ls ms es h,
      rolled_put ss ls ms (place_at ss ls e.place) (one e.amount) (table ss ls es),
    )

pub rolled_twice : RolledTwice
rolled_twice ss ls ms ks [] p q = rw (rolled_none ss ls ms, rolled_none ss ms ks, rolled_none ss ls ks)
rolled_twice ss ls ms ks (g ∷ gs) p q =
    cc (
      rolled_more ss ls ms g gs,
      rolled_more ss ls ks g gs,
      place_up_up ss ls ms ks g.place p q,
      rolled_twice ss ls ms ks gs p q,
      rolled_put ss ms ks (place_up ss ls ms g.place) g.measure (rolled ss ls ms gs),
    )

-- Equal facts, and how often they are there
same_fact_is : (d e : Entry) → same_fact d e ≡ true → d ≡ e
same_fact_is d e h =
    let a = and_parts (same d.place e.place) (eqb d.amount e.amount) h in
    let place = same_is d.place e.place a.0 in
    let amount = eqb-true d.amount e.amount a.1 in
    let r : ◌≡◌ {A = Entry} (record { place = d.place; amount = d.amount }) (record { place = e.place; amount = e.amount }) = cc in
    r

same_fact_refl : (e : Entry) → same_fact e e ≡ true
same_fact_refl e = and_from _ _ (same_refl e.place) (eq-eqb e.amount e.amount refl)

copies_none : (e : Entry) → copies e [] ≡ 0
unfolding copies
copies_none e = refl

copies_same : (e x : Entry) (xs : List Entry) → same_fact e x ≡ true → copies e (x ∷ xs) ≡ 1 + copies e xs
unfolding copies
copies_same e x xs h = rw h

copies_other : (e x : Entry) (xs : List Entry) → same_fact e x ≡ false → copies e (x ∷ xs) ≡ copies e xs
unfolding copies
copies_other e x xs h = rw h (omega arith)

without_same : (e x : Entry) (xs : List Entry) → same_fact e x ≡ true → without e (x ∷ xs) ≡ xs
unfolding without
without_same e x xs h = rw h

without_other : (e x : Entry) (xs : List Entry) → same_fact e x ≡ false → without e (x ∷ xs) ≡ x ∷ without e xs
unfolding without
without_other e x xs h = rw h

-- a fact that is there may as well have come last
pub pulled : (ss : Dims) (ls : Row) (e : Entry) (es : List Entry) → 0 < copies e es → table ss ls es ≡ table ss ls (e ∷ without e es)
pulled ss ls e [] h = absurd (omega (arith, copies_none e))
pulled ss ls e (x ∷ xs) h =
    elim (cases_Bool (same_fact e x)) [
      | inl k ↦ cc (same_fact_is e x k, without_same e x xs k)
      | inr k ↦
          cc (
            without_other e x xs k,
            pulled ss ls e xs (omega (arith, copies_other e x xs k)),
            table_more ss ls x xs,
            table_more ss ls e (without e xs),
            table_more ss ls e (x ∷ without e xs),
            table_more ss ls x (without e xs),
            put_commutes (place_at ss ls e.place) (place_at ss ls x.place) (one e.amount) (one x.amount)
                (table ss ls (without e xs)),
          )
    ]

copies_more : (d x : Entry) (xs : List Entry) → copies d (x ∷ xs) ≡ cond (same_fact d x) 1 0 + copies d xs
unfolding copies
copies_more d x xs = refl

-- and every fact is there as often as in the list that has this one first
pulled_times : (d e : Entry) (es : List Entry) → 0 < copies e es → copies d es ≡ copies d (e ∷ without e es)
pulled_times d e [] h = absurd (omega (arith, copies_none e))
pulled_times d e (x ∷ xs) h =
    elim (cases_Bool (same_fact e x)) [
      | inl k ↦ cc (same_fact_is e x k, without_same e x xs k)
      | inr k ↦
          let r = pulled_times d e xs (omega (arith, copies_other e x xs k)) in
          rw (without_other e x xs k)
          (omega (
            arith,
            r,
            copies_more d x xs,
            copies_more d e (without e xs),
            copies_more d e (x ∷ without e xs),
            copies_more d x (without e xs),
          ))
    ]

-- Any order
pub any_order : AnyOrder
any_order ss ls [] [] h = refl
any_order ss ls [] (x ∷ xs) h =
    absurd (omega (arith, h x, copies_none x, copies_same x x xs (same_fact_refl x)))
any_order ss ls (d ∷ ds) es h =
    let here : 0 < copies d es = omega (arith, h d, copies_same d d ds (same_fact_refl d)) in
    let rest = any_order ss ls ds (without d es)
    (λ e. omega (arith, h e, pulled_times e d es here, copies_more e d ds, copies_more e d (without d es))) in
    cc (table_more ss ls d ds, table_more ss ls d (without d es), pulled ss ls d es here, rest)

-- Adds up
pub table_in_order : (ss : Dims) (ls : Row) (es : List Entry) → InOrder (table ss ls es)
table_in_order ss ls [] = rw (table_none ss ls) in_order_none
table_in_order ss ls (e ∷ es) = rw (table_more ss ls e es) (in_order_put _ _ _ (table_in_order ss ls es))

pub table_none_empty : (ss : Dims) (ls : Row) (es : List Entry) → NoneEmpty (table ss ls es)
table_none_empty ss ls [] = rw (table_none ss ls) none_empty_none
table_none_empty ss ls (e ∷ es) = rw (table_more ss ls e es) (none_empty_put _ _ _ (omega arith) (table_none_empty ss ls es))

pub table_total : (ss : Dims) (ls : Row) (es : List Entry) → total (table ss ls es) ≡ all_facts es
unfolding all_facts
table_total ss ls [] = rw (table_none ss ls) total_none
table_total ss ls (e ∷ es) =
    rw (table_more ss ls e es, total_put (place_at ss ls e.place) (one e.amount) (table ss ls es), table_total ss ls es)

at_none : (p : Row) → at p [] ≡ nothing
unfolding at
at_none p = refl

belonging_none : (ss : Dims) (ls p : Row) → belonging ss ls p [] ≡ nothing
unfolding belonging
belonging_none ss ls p = refl

belonging_same : (ss : Dims) (ls p : Row) (e : Entry) (es : List Entry) → same p (place_at ss ls e.place) ≡ true
    → belonging ss ls p (e ∷ es) ≡ join (one e.amount) (belonging ss ls p es)
unfolding belonging
belonging_same ss ls p e es h = rw h

belonging_other : (ss : Dims) (ls p : Row) (e : Entry) (es : List Entry) → same p (place_at ss ls e.place) ≡ false
    → belonging ss ls p (e ∷ es) ≡ belonging ss ls p es
unfolding belonging
belonging_other ss ls p e es h = rw h

pub table_at : (ss : Dims) (ls : Row) (es : List Entry) (p : Row) → at p (table ss ls es) ≡ belonging ss ls p es
table_at ss ls [] p = cc (table_none ss ls, at_none p, belonging_none ss ls p)
table_at ss ls (e ∷ es) p =
    let q = place_at ss ls e.place in
    let m = one e.amount in
    elim (cases_Bool (same p q)) [
      | inl k ↦
          cc
          (table_more ss ls e es, same_is p q k, at_put_same p m (table ss ls es), belonging_same ss ls p e es k, table_at ss ls es p)
      | inr k ↦
          cc (table_more ss ls e es, at_put_other p q m (table ss ls es) k, belonging_other ss ls p e es k, table_at ss ls es p)
    ]

pub adds_up : AddsUp
adds_up ss ls es = (table_in_order ss ls es, table_none_empty ss ls es, table_total ss ls es, table_at ss ls es)

-- Coarser is smaller
pub coarser_smaller : CoarserSmaller
coarser_smaller = (
  (λ ss ls ms es h. rw (← rolled_right ss ls ms es h) (rolled_length ss ls ms (table ss ls es))),
  rolled_length,
)

-- Taken back
pub taken_back : TakenBack
taken_back = (
  take_out_put,
  λ ss ls e es h.
      rw (pulled ss ls e es h, table_more ss ls e (without e es))
      (take_out_put (place_at ss ls e.place) e.amount (table ss ls (without e es)) (table_none_empty ss ls (without e es))),
)
