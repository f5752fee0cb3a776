-- Copies of a fact in a list, and the list without the first of them. Assumes nothing.
use Rattle.std.proofs.Common.{◌≡◌, ℕ, suc, ◌+◌, ◌-◌, ◌<◌, ◌≤◌, Bool, true, false, cond, List, [], ◌∷◌, ◌++◌, reverse, length, get_or, take, drop, Some, None, Option, sym, refl, ap, ◌∙◌, add_comm, add-one, arith, length-drop}
use Rattle.std.specs.List.{remove}
use Rattle.std.specs.Option.{MatchOption}
use Rattle.std.proofs.lemmas.List.{reverse-append, length-reverse, get_or-reverse, take-append-drop, drop_more, append_assoc, get_or-drop}
use Rattle.std.proofs.lemmas.Bool.{and_parts, and_from, eqb-true, eq-eqb}
use Rattle.hierarchy.specs.Facts.{Entry, same_fact, copies, without}
use Rattle.hierarchy.proofs.Rows.{same_is, same_refl}
use Rattle.ledger.specs.Book.{nothing, Newest}
use Rattle.ledger.specs.Promises.{InsertCounts, RemovalCounts, InsertUndone}

-- a fact equals itself, and facts that are the same stand for one another
same_self : (e : Entry) → same_fact e e ≡ true
same_self e = and_from _ _ (same_refl e.place) (eq-eqb e.amount e.amount refl)

same_alike : (d e x : Entry) → same_fact e x ≡ true → same_fact d x ≡ same_fact d e
same_alike d e x h =
    let p = and_parts _ _ h in
    let a = same_is e.place x.place p.0 in
    let b = eqb-true e.amount x.amount p.1 in
    cc

pub insert_counts : InsertCounts
unfolding copies
insert_counts d e es = add_comm _ _

pub insert_undone : InsertUndone
unfolding without
insert_undone e es = rw (same_self e)

pub removal_counts : RemovalCounts
unfolding copies without
removal_counts d e [] h = absurd (omega arith)
removal_counts d e (x ∷ es) h = go (removal_counts d e es) (same_fact e x) refl
  where
    go : (0 < copies e es → copies d (without e es) + cond (same_fact d e) 1 0 ≡ copies d es) → (v : Bool) → same_fact e x ≡ v
        → copies d (cond v es (x ∷ without e es)) + cond (same_fact d e) 1 0 ≡ cond (same_fact d x) 1 0 + copies d es
    go more true p = rw (same_alike d e x p) (add_comm _ _)
    go more false p =
        let k : 0 < copies e es = omega (arith, rw p at h) in
        omega (arith, more k)

-- no fact of the list equals e
abbrev NoneSame : Entry → List Entry → Type 0
NoneSame e es = (j : ℕ) → j < length es → same_fact e (get_or es j nothing) ≡ false

none_copies : (e : Entry) (es : List Entry) → NoneSame e es → copies e es ≡ 0
unfolding copies
none_copies e [] h = refl
none_copies e (x ∷ es) h = rw (h 0 (omega arith), none_copies e es (λ j l. h (suc j) (omega arith)))

none_reversed : (e : Entry) (t : List Entry) → NoneSame e t → NoneSame e (reverse t)
none_reversed e t h j l =
    let k : j < length t = omega (arith, length-reverse t) in
    rw (get_or-reverse t j nothing k) (h (length t - 1 - j) (omega arith))

-- what a search from the end finds
pub newest_found : (e : Entry) (t : List Entry) (n : ℕ) (r : Option ℕ) → length t ≡ n
    → MatchOption r ((k : ℕ) → 0 ≤ k → k < n → same_fact e (get_or t k nothing) ≡ false)
    (λ i. (i < n) × (same_fact e (get_or t i nothing) ≡ true) × ((k : ℕ) → i < k → k < n → same_fact e (get_or t k nothing) ≡ false))
    → elim r as (λ x. Type 0) [ Some i ↦ Newest e t i | None ↦ copies e (reverse t) ≡ 0 ]
newest_found e t n None long h = none_copies e (reverse t) (none_reversed e t (λ k l. h k (omega arith) (omega arith)))
newest_found e t n (Some i) long h = (omega (arith, h.0), h.1, λ k a b. h.2 k a (omega arith))

-- the first that equals e, behind some that do not
without_at : (e x : Entry) (ds es : List Entry) → NoneSame e ds → same_fact e x ≡ true → without e (ds ++ (x ∷ es)) ≡ ds ++ es
unfolding without
without_at e x [] es h p = rw p
without_at e x (d ∷ ds) es h p = rw (h 0 (omega arith)) (ap (λ ys. d ∷ ys) (without_at e x ds es (λ j l. h (suc j) (omega arith)) p))

copies_at : (e x : Entry) (ds es : List Entry) → same_fact e x ≡ true → 0 < copies e (ds ++ (x ∷ es))
unfolding copies
copies_at e x [] es p = rw p (omega arith)
copies_at e x (d ∷ ds) es p = omega (arith, copies_at e x ds es p)

-- a list around its i-th, the newest first
around : (t : List Entry) (i : ℕ) → i < length t → reverse t ≡ reverse (drop (i + 1) t) ++ (get_or t i nothing ∷ reverse (take i t))
around t i l =
    let x = get_or t i nothing in
    let a : t ≡ take i t ++ (x ∷ drop (i + 1) t) = sym (take-append-drop i t) ∙ ap (λ ys. take i t ++ ys) (drop_more t i nothing l) in
    let b : reverse (x ∷ drop (i + 1) t) ≡ reverse (drop (i + 1) t) ++ (x ∷ []) = reverse-append (x ∷ []) (drop (i + 1) t) in
    let c = reverse-append (take i t) (x ∷ drop (i + 1) t) in
    let d = append_assoc (reverse (drop (i + 1) t)) (x ∷ []) (reverse (take i t)) in
    ap reverse a ∙ (c ∙ (ap (λ ys. ys ++ reverse (take i t)) b ∙ d))

later_none : (e : Entry) (t : List Entry) (i : ℕ) → Newest e t i → NoneSame e (drop (i + 1) t)
later_none e t i h j l = rw (get_or-drop (i + 1) t j nothing) (h.2 (i + 1 + j) (omega arith) (omega (arith, length-drop (i + 1) t)))

-- the newest goes
pub newest_gone : (e : Entry) (t : List Entry) (i : ℕ) → Newest e t i → without e (reverse t) ≡ reverse (remove t i)
newest_gone e t i h =
    let a = around t i h.0 in
    let b = without_at e (get_or t i nothing) (reverse (drop (i + 1) t)) (reverse (take i t)) (none_reversed e _ (later_none e t i h)) h.1 in
    let c : reverse (remove t i) ≡ reverse (drop (i + 1) t) ++ reverse (take i t) =
    ap (λ n. reverse (take i t ++ drop n t)) (sym (add-one i)) ∙ reverse-append (take i t) (drop (i + 1) t) in
    cc

pub newest_counts : (e : Entry) (t : List Entry) (i : ℕ) → Newest e t i → 0 < copies e (reverse t)
newest_counts e t i h =
    rw (around t i h.0) (copies_at e (get_or t i nothing) (reverse (drop (i + 1) t)) (reverse (take i t)) h.1)

-- where there is none, nothing goes
pub none_gone : (e : Entry) (es : List Entry) → copies e es ≡ 0 → without e es ≡ es
unfolding copies without
none_gone e [] h = refl
none_gone e (x ∷ es) h = go (none_gone e es) (same_fact e x) refl
  where
    go : (copies e es ≡ 0 → without e es ≡ es) → (v : Bool) → same_fact e x ≡ v → cond v es (x ∷ without e es) ≡ x ∷ es
    go more true p = absurd (omega (arith, rw p at h))
    go more false p = ap (λ ys. x ∷ ys) (more (omega (arith, rw p at h)))
