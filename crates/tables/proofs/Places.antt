-- Where parts lie: bounds, and what a write to one part leaves of the others. Assumes nothing.
use Rattle.std.proofs.Common.{◌≡◌, ℕ, suc, ◌+◌, ◌-◌, ◌*◌, ◌^◌, ◌<◌, ◌≤◌, List, [], ◌∷◌, map, length, get_or, take, drop, sym, ap, ◌∙◌, inl, inr, mul-le-mul, arith}
use borrow.Rule.Slice.PartMut.{put_mid}
use Rattle.std.proofs.lemmas.List.{drop-drop, drop-take, ext_get_or, get_or-map, length-map, length-take-le, length-drop, get_or-take, nil_from_length}
use Rattle.std.proofs.lemmas.Bool.{cases_lt}
use Rattle.std.proofs.lemmas.Slice.{take-put_mid_below, drop-put_mid, between-put_mid}
use Rattle.hierarchy.proofs.Parts.{parts_length, part_at, next_place, place_le}
use Rattle.summary.specs.Memory.{start}
use Rattle.model.specs.House.{Kept}
use Rattle.tables.specs.Memory.{part, kept_in, tables_in, Each}

pub size_bound : (w g : ℕ) → w ≤ 4 → g ≤ 2 ^ 32 → start w g < 2 ^ 36
size_bound w g p q = let v : w + 2 ≤ 6 = omega arith in let m : (w + 2) * g ≤ 6 * 2 ^ 32 = mul-le-mul v q in omega (arith, m)

pub within : (s i : ℕ) → i < 16 → 1 + s * i + s ≤ 1 + s * 16
within s i h = omega (arith, place_le s (suc i) 16 (omega arith), next_place s i)

module _ (s t : ℕ) (xs ys : List ℕ) (long : 1 + s * t + s ≤ length xs) (exact : length ys ≡ s) where
  -- the part that was written
  pub part_written : part s t (put_mid (1 + s * t) s xs ys) ≡ ys
  part_written =
      let e : (1 + s * t + s) - (1 + s * t) ≡ s = omega arith in
      rw e at (between-put_mid (1 + s * t) s xs ys (1 + s * t + s) (omega arith) (exact ∙ sym e))

  -- a part before it, and one behind it
  pub part_before : (j : ℕ) → j < t → part s j (put_mid (1 + s * t) s xs ys) ≡ part s j xs
  part_before j h =
      let n : 1 + s * j + s ≤ 1 + s * t = omega (arith, place_le s (suc j) t (omega arith), next_place s j) in
      sym (drop-take (1 + s * j) s (put_mid (1 + s * t) s xs ys))
      ∙ ap (drop (1 + s * j)) (take-put_mid_below (1 + s * t) s xs ys (1 + s * j + s) n (omega arith)) ∙ drop-take (1 + s * j) s xs

  pub part_behind : (j : ℕ) → t < j → part s j (put_mid (1 + s * t) s xs ys) ≡ part s j xs
  part_behind j h =
      let n : 1 + s * t + s ≤ 1 + s * j = omega (arith, place_le s (suc t) j (omega arith), next_place s t) in
      ap (take s) (drop-put_mid (1 + s * t) s xs ys (1 + s * j) n (omega arith) exact)

  pub head_kept : get_or (put_mid (1 + s * t) s xs ys) 0 0 ≡ get_or xs 0 0
  head_kept =
      let a = take-put_mid_below (1 + s * t) s xs ys 1 (omega arith) (omega arith) in
      sym (get_or-take 1 (put_mid (1 + s * t) s xs ys) 0 0 (omega arith)) ∙ ap (λ zs. get_or zs 0 0) a ∙ get_or-take 1 xs 0 0 (omega arith)

pub each_more : (s : ℕ) (R : List ℕ → List ℕ → Type 0) (t : ℕ) (xs ys zs : List ℕ) → 1 + s * t + s ≤ length ys → length zs ≡ s
    → R (part s t xs) zs → Each s R t xs ys → Each s R (t + 1) xs (put_mid (1 + s * t) s ys zs)
each_more s R t xs ys zs long exact r e =
    record {
      head = head_kept s t ys zs long exact ∙ e.head;
      made = λ j h. elim (cases_lt j t) [
        | inl below ↦ rw (part_before s t ys zs long exact j below) (e.made j below)
        | inr last ↦ let same : j ≡ t = omega arith in rw (same, part_written s t ys zs long exact) r
      ];
      rest = λ j h. part_behind s t ys zs long exact j (omega arith) ∙ e.rest j (omega arith);
    }

pub part_long : (s i : ℕ) (xs : List ℕ) → 1 + s * i + s ≤ length xs → length (part s i xs) ≡ s
part_long s i xs h = length-take-le s (drop (1 + s * i) xs) (omega (arith, length-drop (1 + s * i) xs))

-- the tables by their parts
pub part_is : (s i : ℕ) (xs : List ℕ) → take s (drop (s * i) (drop 1 xs)) ≡ part s i xs
part_is s i xs = ap (take s) (drop-drop (s * i) 1 xs)

pub tables_length : (w s : ℕ) (xs : List ℕ) → length (tables_in w s xs) ≡ get_or xs 0 0
tables_length w s xs = parts_length (kept_in w) s (get_or xs 0 0) (drop 1 xs)

pub table_at : (w s i : ℕ) (xs : List ℕ) (d : Kept) → i < get_or xs 0 0 → get_or (tables_in w s xs) i d ≡ kept_in w (part s i xs)
table_at w s i xs d h = part_at (kept_in w) s i (get_or xs 0 0) (drop 1 xs) d h ∙ ap (kept_in w) (part_is s i xs)

-- tables that are these one by one are these
pub tables_are : (w s : ℕ) (xs : List ℕ) (ks : List Kept) → get_or xs 0 0 ≡ length ks
    → ((i : ℕ) (d : Kept) → i < length ks → kept_in w (part s i xs) ≡ get_or ks i d) → tables_in w s xs ≡ ks
tables_are w s xs [] n h = nil_from_length (tables_in w s xs) (tables_length w s xs ∙ n)
tables_are w s xs (k ∷ ks) n h =
    ext_get_or k (tables_in w s xs) (k ∷ ks) (tables_length w s xs ∙ n)
    (λ i l. let m : i < length (k ∷ ks) = omega (arith, tables_length w s xs, n) in table_at w s i xs k (omega (arith, n)) ∙ h i k m)

-- after a loop over all parts each table is changed by f
pub tables_mapped : (w s : ℕ) (R : List ℕ → List ℕ → Type 0) (f : Kept → Kept) (xs ys : List ℕ)
    → ((us vs : List ℕ) → R us vs → kept_in w vs ≡ f (kept_in w us)) → Each s R (get_or xs 0 0) xs ys → tables_in w s ys ≡ map f (tables_in w s xs)
tables_mapped w s R f xs ys imp e =
    tables_are w s ys (map f (tables_in w s xs)) (e.head ∙ sym (length-map (tables_in w s xs) f ∙ tables_length w s xs))
    (λ i d l.
    let n : i < get_or xs 0 0 = omega (arith, length-map (tables_in w s xs) f, tables_length w s xs) in
    let k = kept_in w (part s i xs) in
    imp (part s i xs) (part s i ys) (e.made i n) ∙ sym (get_or-map f (tables_in w s xs) i k d (omega (arith, tables_length w s xs)) ∙ ap f (table_at w s i xs k n)))

-- one turn of such a loop, as the code has it
pub each_turn : (s : ℕ) (R : List ℕ → List ℕ → Type 0) (t : ℕ) (xs ys zs : List ℕ) (a k : ℕ) → a ≡ 1 + s * t → k ≡ s → 1 + s * t + s ≤ length ys
    → length zs ≡ s → Each s R t xs ys → R (take k (drop a ys)) zs → Each s R (t + 1) xs (put_mid a k ys zs)
each_turn s R t xs ys zs a k e f long exact each r =
    rw (e, f) (each_more s R t xs ys zs long exact (rw (e, f, each.rest t (omega arith)) at r) each)
