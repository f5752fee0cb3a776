-- How facts lie in a row. Only what a part is, a place and the amount behind it, is used here of a fact's layout. Assumes nothing.
use Rattle.std.proofs.Common.{◌≡◌, ℕ, suc, Bool, ◌+◌, ◌-◌, ◌*◌, ◌<◌, ◌≤◌, List, [], ◌∷◌, ◌++◌, reverse, length, get_or, take, drop, set, nat_eq, sym, refl, ap, ◌∙◌, inl, inr, mul-add, arith, length-append, length-drop}
use borrow.Rule.Slice.PartMut.{put_mid}
use Rattle.std.specs.List.{flat_map, remove}
use lib.Seq.{paste}
use Rattle.std.proofs.lemmas.List.{take-append-drop, take_at, drop-drop, drop_more, drop_all, length-take-le, get_or_at, get_or_append_left, set-append_right, reverse-append, reverse-reverse, length-reverse, length_push}
use Rattle.std.proofs.lemmas.List.Edits.{length-remove, get_or-remove_below, get_or-remove_above}
use Rattle.std.proofs.lemmas.Bool.{cases_lt}
use Rattle.std.specs.Cmp.Lexicographic.{pointwise}
use Rattle.hierarchy.specs.Facts.{Entry}
use Rattle.hierarchy.specs.Levels.{same}
use Rattle.hierarchy.proofs.Parts.{next_place, place_le, part_at, parts_length, put_mid_behind, paste_behind, part_removed, part_pushed, in_out, length_out}
use Rattle.ledger.specs.Book.{stride, start, entry_in, entry_out, count_in, in_order, facts_in, Holds, holding, nothing}
use Rattle.hierarchy.proofs.Rows.{same_rows}

-- a fact that is there ends within the row
pub fact_end : (w n i room : ℕ) → start w n ≤ room → i < n → start w i + stride w ≤ room
fact_end w n i room h l = let m = place_le (stride w) (suc i) n (omega arith) in let e = next_place (stride w) i in omega arith

-- one fact, written and read
entry_in_out : (w : ℕ) (e : Entry) → length e.place ≡ w → entry_in w (entry_out e) ≡ e
entry_in_out w e h =
    let a : take w (e.place ++ (e.amount ∷ [])) ≡ e.place = take_at e.place _ w h in
    let b : get_or (e.place ++ (e.amount ∷ [])) w 0 ≡ e.amount = get_or_at e.place e.amount [] 0 w h in
    rw (a, b)

entry_long : (w : ℕ) (e : Entry) → length e.place ≡ w → length (entry_out e) ≡ stride w
entry_long w e h = omega (arith, length-append e.place (e.amount ∷ []))

entry_out_in : (w : ℕ) (xs : List ℕ) → length xs ≡ stride w → entry_out (entry_in w xs) ≡ xs
entry_out_in w xs h =
    let a = drop_more xs w 0 (omega arith) in
    let c : drop (w + 1) xs ≡ [] = drop_all (w + 1) xs (omega arith) in
    let d = take-append-drop w xs in
    cc

-- a place and an amount, written one after the other over a part
written : (w : ℕ) (xs ys : List ℕ) (a : ℕ) → length xs ≡ w + 1 → length ys ≡ w → set (ys ++ drop w xs) w a ≡ ys ++ (a ∷ [])
written w xs ys a h l =
    let p : set (ys ++ drop w xs) w a ≡ ys ++ set (drop w xs) (w - w) a = set-append_right ys (drop w xs) w w a l (omega arith) in
    let b = drop_more xs w 0 (omega arith) in
    let e : drop (w + 1) xs ≡ [] = drop_all (w + 1) xs (omega arith) in
    let m : w - w ≡ 0 = omega arith in
    rw (p, m, b, e)

pub part_written : (w at s n : ℕ) (xs ys : List ℕ) (a : ℕ) → s ≡ stride w → n ≡ w → length ys ≡ w → at + stride w ≤ length xs
    → put_mid at s xs (set (put_mid 0 n (take s (drop at xs)) ys) w a) ≡ put_mid at (stride w) xs (ys ++ (a ∷ []))
part_written w at s n xs ys a e f l room =
    let long : length (take (w + 1) (drop at xs)) ≡ w + 1 = length-take-le (w + 1) (drop at xs) (omega (arith, length-drop at xs)) in
    rw (e, f, written w (take (w + 1) (drop at xs)) ys a long l)

-- the first numbers of two rows are the same where `==` says so
pub same_read : (w n : ℕ) (xs ys : List ℕ) (v : Bool) → n ≡ w → v ≡ pointwise nat_eq (take n xs) (take n ys) → v ≡ same (take w xs) (take w ys)
same_read w n xs ys v e h = rw e at h ∙ same_rows (take w xs) (take w ys)

-- the i-th fact is read from where it lies
pub entry_at : (w i : ℕ) (xs : List ℕ) → i < count_in xs → get_or (in_order w xs) i nothing ≡ entry_in w (take (stride w) (drop (start w i) xs))
entry_at w i xs h =
    part_at (entry_in w) (stride w) i (count_in xs) (drop 1 xs) nothing h
    ∙ ap (λ ys. entry_in w (take (stride w) ys)) (drop-drop (stride w * i) 1 xs)

pub order_length : (w : ℕ) (xs : List ℕ) → length (in_order w xs) ≡ count_in xs
order_length w xs = parts_length (entry_in w) (stride w) (count_in xs) (drop 1 xs)

-- every place has one number a dimension
abbrev Wide : ℕ → List Entry → Type 0
Wide w t = (i : ℕ) (d : Entry) → i < length t → length (get_or t i d).place ≡ w

order_wide : (w : ℕ) (xs : List ℕ) → start w (count_in xs) ≤ length xs → Wide w (in_order w xs)
order_wide w xs h i d l =
    let n = count_in xs in
    let k : i < n = omega (arith, order_length w xs) in
    let e = part_at (entry_in w) (stride w) i n (drop 1 xs) d k in
    let f = fact_end w n i (length xs) h k in
    let long : length (take (stride w) (drop (stride w * i) (drop 1 xs))) ≡ stride w =
    length-take-le (stride w) _ (omega (arith, length-drop (stride w * i) (drop 1 xs), length-drop 1 xs)) in
    rw e (length-take-le w _ (omega arith))

wide_push : (w : ℕ) (t : List Entry) (e : Entry) → Wide w t → length e.place ≡ w → Wide w (t ++ (e ∷ []))
wide_push w t e h p i d l =
    elim (cases_lt i (length t)) [
      | inl a ↦ rw (get_or_append_left t (e ∷ []) d i a) (h i d a)
      | inr b ↦ rw (get_or_at t e [] d i (omega (arith, length_push t e))) p
    ]

wide_removed : (w : ℕ) (t : List Entry) (i : ℕ) → i < length t → Wide w t → Wide w (remove t i)
wide_removed w t i l h k d m =
    let n = length-remove t i l in
    elim (cases_lt k i) [
      | inl a ↦ rw (get_or-remove_below t i d k a l) (h k d (omega arith))
      | inr b ↦ rw (get_or-remove_above t i d k b l) (h (k + 1) d (omega arith))
    ]

-- a row that holds facts in order
abbrev held : ℕ → List Entry → List ℕ → List ℕ
held w t xs = length t ∷ (flat_map entry_out t ++ drop (start w (length t)) xs)

held_is : (w : ℕ) (t : List Entry) (xs : List ℕ) → holding w (reverse t) xs ≡ held w t xs
held_is w t xs = rw (length-reverse t, reverse-reverse t)

-- what was written is read
held_order : (w : ℕ) (t : List Entry) (xs : List ℕ) → Wide w t → in_order w (held w t xs) ≡ t
held_order w t xs h =
    in_out (entry_in w) (stride w) entry_out t _ (λ i d l. let p = h i d l in (entry_long w _ p, entry_in_out w _ p))

held_length : (w : ℕ) (t : List Entry) (xs : List ℕ) → Wide w t → start w (length t) ≤ length xs → length (held w t xs) ≡ length xs
held_length w t xs h l =
    let a = length_out (entry_in w) (stride w) entry_out t (λ i d k. entry_long w _ (h i d k)) in
    omega (arith, length-append (flat_map entry_out t) (drop (start w (length t)) xs), length-drop (start w (length t)) xs)

-- the count is written, whatever lies behind it
recount : (xs ys : List ℕ) (m : ℕ) → 0 < length xs → set (take 1 xs ++ ys) 0 m ≡ m ∷ ys
recount [] ys m h = absurd (omega arith)
recount (x ∷ xs) ys m h = refl

-- what a row holds and that it is a book again, once it is known how it was written
pub held_facts : (w : ℕ) (t : List Entry) (xs ys : List ℕ) → Wide w t → ys ≡ held w t xs → facts_in w ys ≡ reverse t
held_facts w t xs ys h e = ap (facts_in w) e ∙ ap reverse (held_order w t xs h)

pub held_holds : (w room : ℕ) (t : List Entry) (xs ys : List ℕ) → Wide w t → start w room ≤ length xs → length t ≤ room → ys ≡ held w t xs
    → Holds w room ys
held_holds w room t xs ys h l m e =
    let p = place_le (stride w) (length t) room m in
    let n = held_length w t xs h (omega arith) in
    let a : count_in ys ≡ length t = ap count_in e in
    record { fits = omega arith; long = omega (arith, ap length e) }

-- a fact is written behind the last, and there is one more
pub row_pushed : (w : ℕ) (xs : List ℕ) (e : Entry) → start w (count_in xs) + stride w ≤ length xs
    → set (put_mid (start w (count_in xs)) (stride w) xs (entry_out e)) 0 (count_in xs + 1) ≡ held w (in_order w xs ++ (e ∷ [])) xs
row_pushed w xs e room =
    let n = count_in xs in
    let s = stride w in
    let t = in_order w xs in
    let ys = drop 1 xs in
    let a : put_mid (1 + s * n) s xs (entry_out e) ≡ take 1 xs ++ put_mid (s * n) s ys (entry_out e) = put_mid_behind 1 (s * n) s xs (entry_out e) in
    let b : put_mid (s * n) s ys (entry_out e) ≡ flat_map entry_out (t ++ (e ∷ [])) ++ drop (s * (n + 1)) ys =
    part_pushed (entry_in w) s entry_out (entry_out_in w) n ys e (omega (arith, length-drop 1 xs)) in
    let c : drop (s * (n + 1)) ys ≡ drop (start w (n + 1)) xs = drop-drop (s * (n + 1)) 1 xs in
    let d : length (t ++ (e ∷ [])) ≡ n + 1 = length_push t e ∙ ap (λ j. j + 1) (order_length w xs) in
    rw (a, b, c, d) (recount xs _ (n + 1) (omega arith))

-- the facts behind the i-th move down, and there is one fewer
pub row_removed : (w i : ℕ) (xs : List ℕ) → start w (count_in xs) ≤ length xs → i < count_in xs
    → set (paste xs (start w i) (drop (start w (i + 1)) xs) (start w (count_in xs) - start w (i + 1))) 0 (count_in xs - 1)
    ≡ held w (remove (in_order w xs) i) xs
row_removed w i xs room l =
    let n = count_in xs in
    let s = stride w in
    let t = in_order w xs in
    let ys = drop 1 xs in
    let m : s * (i + 1) ≡ s * i + s = omega (arith, mul-add s i 1) in
    let k : start w n - start w (i + 1) ≡ s * n - (s * i + s) = omega arith in
    let a : paste xs (1 + s * i) (drop (1 + (s * i + s)) xs) (s * n - (s * i + s))
    ≡ take 1 xs ++ paste ys (s * i) (drop (s * i + s) ys) (s * n - (s * i + s)) =
    paste_behind 1 (s * i) (s * i + s) (s * n - (s * i + s)) xs in
    let b : paste ys (s * i) (drop (s * i + s) ys) (s * n - (s * i + s)) ≡ flat_map entry_out (remove t i) ++ drop (s * (n - 1)) ys =
    part_removed (entry_in w) s entry_out (entry_out_in w) i n ys l (omega (arith, length-drop 1 xs)) in
    let c : drop (s * (n - 1)) ys ≡ drop (start w (n - 1)) xs = drop-drop (s * (n - 1)) 1 xs in
    let d : length (remove t i) ≡ n - 1 = omega (arith, length-remove t i (omega (arith, order_length w xs)), order_length w xs) in
    rw (k, m, a, b, c, d) (recount xs _ (n - 1) (omega arith))

-- all that an insert owes
pub inserted_row : (w room : ℕ) (xs : List ℕ) (e : Entry) → Holds w room xs → count_in xs < room → length e.place ≡ w
    → (ys : List ℕ) → ys ≡ set (put_mid (start w (count_in xs)) (stride w) xs (entry_out e)) 0 (count_in xs + 1)
    → (ys ≡ holding w (e ∷ facts_in w xs) xs) × (facts_in w ys ≡ e ∷ facts_in w xs) × Holds w room ys
inserted_row w room xs e h l p ys q =
    let n = count_in xs in
    let t = in_order w xs in
    let u = t ++ (e ∷ []) in
    let fit = fact_end w room n (length xs) h.long l in
    let r : ys ≡ held w u xs = q ∙ row_pushed w xs e fit in
    let wide = wide_push w t e (order_wide w xs (omega arith)) p in
    let back : reverse u ≡ e ∷ reverse t = reverse-append t (e ∷ []) in (
      r ∙ (sym (held_is w u xs) ∙ ap (λ es. holding w es xs) back),
      held_facts w u xs ys wide r ∙ back,
      held_holds w room u xs ys wide h.long (omega (arith, length_push t e, order_length w xs)) r,
    )

-- all that the removal of the i-th owes
pub deleted_row : (w room i : ℕ) (xs : List ℕ) → Holds w room xs → i < count_in xs
    → (ys : List ℕ) → ys ≡ set (paste xs (start w i) (drop (start w (i + 1)) xs) (start w (count_in xs) - start w (i + 1))) 0 (count_in xs - 1)
    → (ys ≡ holding w (reverse (remove (in_order w xs) i)) xs) × (facts_in w ys ≡ reverse (remove (in_order w xs) i)) × Holds w room ys
deleted_row w room i xs h l ys q =
    let n = count_in xs in
    let t = in_order w xs in
    let u = remove t i in
    let m = place_le (stride w) n room h.fits in
    let there : i < length t = omega (arith, order_length w xs) in
    let r : ys ≡ held w u xs = q ∙ row_removed w i xs (omega (arith, h.long)) l in
    let wide = wide_removed w t i there (order_wide w xs (omega (arith, h.long))) in (
      r ∙ sym (held_is w u xs),
      held_facts w u xs ys wide r,
      held_holds w room u xs ys wide h.long (omega (arith, h.fits, length-remove t i there, order_length w xs)) r,
    )
