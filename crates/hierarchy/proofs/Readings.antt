-- Rows of numbers read as dimensions: what follows from what is known of each dimension. Assumes nothing.
use Rattle.std.proofs.Common.{◌≡◌, ℕ, zero, suc, ◌+◌, ◌-◌, ◌*◌, ◌<◌, ◌≤◌, true, false, leb, ◌&&◌, List, [], ◌∷◌, ◌++◌, map, length, get_or, take, drop, set, Some, None, sym, refl, ap, ◌∙◌, ⊎_elim, zero-add, arith, length-append}
use Rattle.std.proofs.lemmas.Bool.{le-leb, lt-leb, leb-true, and_parts, cases_lt}
use Rattle.std.proofs.lemmas.List.{drop-drop, drop-take, take-take, get_or-take, length-take-le, length-drop, take_at, drop_at, get_or-set_same, get_or-set_other}
use Rattle.hierarchy.specs.Dimensions.{Row}
use Rattle.hierarchy.specs.Reading.{small, is_dimension, factors_in, dims_from, first_bad, is_whole, dims_refusal}
use Rattle.hierarchy.specs.Views.{factors_of}
use Rattle.hierarchy.specs.declared.dimension.Dimension.{Dimension}
use Rattle.replies.specs.declared.Refusal.TheVariants.{BadDimension}

-- a dimension is read from its five numbers
is_five : (ys : Row) → 5 ≤ length ys → is_dimension (take 5 ys) ≡ is_dimension ys
is_five ys h = ⊎_elim above few (cases_lt 4 (get_or ys 0 0))
  where
    here : get_or (take 5 ys) 0 0 ≡ get_or ys 0 0
    here = get_or-take 5 ys 0 0 (omega arith)

    long : leb 5 (length (take 5 ys)) ≡ true
    long = le-leb 5 (length (take 5 ys)) (omega (arith, length-take-le 5 ys h))

    above : 4 < get_or ys 0 0 → is_dimension (take 5 ys) ≡ is_dimension ys
    above k = rw (here, long, le-leb 5 (length ys) h, lt-leb (get_or ys 0 0) 4 k)

    few : get_or ys 0 0 ≤ 4 → is_dimension (take 5 ys) ≡ is_dimension ys
    few k = rw (here, long, le-leb 5 (length ys) h, drop-take 1 4 ys, take-take (get_or ys 0 0) 4 (drop 1 ys) k)

five_factors : (ys : Row) → is_dimension ys ≡ true → factors_in (take 5 ys) ≡ factors_in ys
five_factors ys h =
    let a = and_parts (leb 5 (length ys)) (leb (get_or ys 0 0) 4 && small (factors_in ys)) h in
    let few = leb-true (get_or ys 0 0) 4 (and_parts (leb (get_or ys 0 0) 4) (small (factors_in ys)) a.1).0 in
    rw (get_or-take 5 ys 0 0 (omega arith), drop-take 1 4 ys, take-take (get_or ys 0 0) 4 (drop 1 ys) few)

on_five : (j : ℕ) (ys : Row) → drop (5 * suc j) ys ≡ drop (5 * j) (drop 5 ys)
on_five j ys = let e : 5 * suc j ≡ 5 + 5 * j = omega arith in ap (λ n. drop n ys) e ∙ sym (drop-drop (5 * j) 5 ys)

pub none_bad : (i k : ℕ) (ys : Row) → ((j : ℕ) → j < k → is_dimension (drop (5 * j) ys) ≡ true) → first_bad i k ys ≡ None
unfolding first_bad
none_bad i zero ys h = refl
none_bad i (suc k) ys h = rw (h 0 (omega arith)) (none_bad (suc i) k (drop 5 ys) (λ j l. rw (on_five j ys) at (h (suc j) (omega arith))))

pub bad_at : (i k j : ℕ) (ys : Row) → j < k → ((m : ℕ) → m < j → is_dimension (drop (5 * m) ys) ≡ true) → is_dimension (drop (5 * j) ys) ≡ false
    → first_bad i k ys ≡ Some (i + j)
unfolding first_bad
bad_at i zero j ys l h b = absurd (omega arith)
bad_at i (suc k) zero ys l h b = let e : i + 0 ≡ i = omega arith in rw (b, e)
bad_at i (suc k) (suc j) ys l h b =
    let e : i + suc j ≡ suc i + j = omega arith in
    rw (h 0 (omega arith), e)
    (bad_at (suc i) k j (drop 5 ys) (omega arith) (λ m n. rw (on_five m ys) at (h (suc m) (omega arith))) (rw (on_five j ys) at b))

pub each_dimension : (k : ℕ) (ds : List Dimension) (ys : Row) → k ≤ length ds
    → ((j : ℕ) → j < k → (d : Dimension) → factors_of (get_or ds j d) ≡ factors_in (drop (5 * j) ys)) → map factors_of (take k ds) ≡ dims_from k ys
unfolding dims_from
each_dimension zero ds ys l h = refl
each_dimension (suc k) [] ys l h = absurd (omega arith)
each_dimension (suc k) (d ∷ ds) ys l h =
    let first = h 0 (omega arith) d in
    let rest = each_dimension k ds (drop 5 ys) (omega arith) (λ j m e. rw (on_five j ys) at (h (suc j) (omega arith) e)) in
    cc

-- behind the count
behind : (j : ℕ) (xs : Row) → drop (5 * j) (drop 1 xs) ≡ drop (1 + 5 * j) xs
behind j xs = drop-drop (5 * j) 1 xs

-- the dimension at i of a row is one, and its factors are these
abbrev pub Reads : Row → ℕ → Dimension → Type 0
Reads xs i d = (is_dimension (drop (1 + 5 * i) xs) ≡ true) × (factors_of d ≡ factors_in (drop (1 + 5 * i) xs))

-- the j-th of the parts of w dimensions
part_at : (w j : ℕ) (xs : Row) → j < w → take 5 (drop (5 * j) (take (5 * w) (drop 1 xs))) ≡ take 5 (drop (1 + 5 * j) xs)
part_at w j xs h =
    let e : 5 * w ≡ 5 * j + 5 * (w - j) = omega arith in
    let room : 5 ≤ 5 * (w - j) = omega arith in
    rw (e, drop-take (5 * j) (5 * (w - j)) (drop 1 xs), take-take 5 (5 * (w - j)) (drop (5 * j) (drop 1 xs)) room, behind j xs)

-- how far into a row of w dimensions
far : (w j : ℕ) (xs : Row) → j < w → 1 + 5 * w ≤ length xs → 5 ≤ length (drop (1 + 5 * j) xs)
far w j xs h l = omega (arith, length-drop (1 + 5 * j) xs)

parts_left : (w n : ℕ) (xs : Row) → 1 + 5 * w ≤ length xs → length (drop (5 * n) (take (5 * w) (drop 1 xs))) ≡ 5 * w - 5 * n
parts_left w n xs l =
    let whole = length-take-le (5 * w) (drop 1 xs) (omega (arith, length-drop 1 xs)) in
    omega (arith, length-drop (5 * n) (take (5 * w) (drop 1 xs)), whole)

pub part_reads : (w j : ℕ) (xs : Row) (part : Row) (d : Dimension) → j < w → 1 + 5 * w ≤ length xs → part ≡ take 5 (drop (5 * j) (take (5 * w) (drop 1 xs)))
    → is_dimension part ≡ true → factors_of d ≡ factors_in part → Reads xs j d
part_reads w j xs part d h l p is f =
    let e = p ∙ part_at w j xs h in
    let good = sym (is_five (drop (1 + 5 * j) xs) (far w j xs h l)) ∙ rw e at is in
    (good, f ∙ (ap factors_in e ∙ five_factors (drop (1 + 5 * j) xs) good))

pub part_bad : (w j : ℕ) (xs : Row) (part : Row) → j < w → 1 + 5 * w ≤ length xs → part ≡ take 5 (drop (5 * j) (take (5 * w) (drop 1 xs)))
    → is_dimension part ≡ false → is_dimension (drop (1 + 5 * j) xs) ≡ false
part_bad w j xs part h l p is = sym (is_five (drop (1 + 5 * j) xs) (far w j xs h l)) ∙ rw (p ∙ part_at w j xs h) at is

-- a turn of the loop over the parts of w dimensions, and its end
pub part_turn : (w n : ℕ) (xs rest part after : Row) → rest ≡ drop (5 * n) (take (5 * w) (drop 1 xs)) → 1 + 5 * w ≤ length xs → rest ≡ part ++ after → length part ≡ 5
    → (n < w) × (part ≡ take 5 (drop (5 * n) (take (5 * w) (drop 1 xs)))) × (after ≡ drop (5 * (n + 1)) (take (5 * w) (drop 1 xs)))
part_turn w n xs rest part after e l split five =
    let left = parts_left w n xs l in
    let front : part ≡ take 5 rest = sym (ap (take 5) split ∙ take_at part after 5 five) in
    let behind : after ≡ drop 5 rest = sym (ap (drop 5) split ∙ drop_at part after 5 five) in
    let next : 5 * n + 5 ≡ 5 * (n + 1) = omega arith in (
      omega (arith, left, ap length e, ap length split, length-append part after, five),
      front ∙ ap (take 5) e,
      behind ∙ (ap (drop 5) e ∙ (drop-drop 5 (5 * n) (take (5 * w) (drop 1 xs)) ∙ ap (λ m. drop m (take (5 * w) (drop 1 xs))) next)),
    )

pub part_end : (w n : ℕ) (xs rest : Row) → rest ≡ drop (5 * n) (take (5 * w) (drop 1 xs)) → 1 + 5 * w ≤ length xs → length rest < 5 → w ≤ n
part_end w n xs rest e l short = omega (arith, parts_left w n xs l, ap length e, short)

-- one more is read
pub reads_more : (n : ℕ) (xs : Row) (ds : List Dimension) (x : Dimension) → n < length ds → ((j : ℕ) → j < n → (d : Dimension) → Reads xs j (get_or ds j d)) → Reads xs n x
    → (j : ℕ) → j < n + 1 → (d : Dimension) → Reads xs j (get_or (set ds n x) j d)
reads_more n xs ds x l h now j k d = ⊎_elim before here (cases_lt j n)
  where
    before : j < n → Reads xs j (get_or (set ds n x) j d)
    before m = rw (get_or-set_other ds n j x d (omega arith)) (h j m d)

    here : n ≤ j → Reads xs j (get_or (set ds n x) j d)
    here m = let e : j ≡ n = omega arith in rw (e, get_or-set_same ds n x d l) now

pub read_all : (w : ℕ) (xs : Row) (ds : List Dimension) → w ≤ length ds → w ≡ get_or xs 0 0 → is_whole xs ≡ true
    → ((j : ℕ) → j < w → (d : Dimension) → Reads xs j (get_or ds j d)) → Dimension
    → (dims_refusal xs ≡ None) × (map factors_of (take w ds) ≡ dims_from (get_or xs 0 0) (drop 1 xs))
read_all w xs ds l e whole h d =
    let none = none_bad 0 w (drop 1 xs) (λ j k. rw (behind j xs) (h j k d).0) in
    let each = each_dimension w ds (drop 1 xs) l (λ j k z. rw (behind j xs) (h j k z).1) in
    (rw (whole, ← e, none), rw (← e) each)

pub read_bad : (w j : ℕ) (xs : Row) → w ≡ get_or xs 0 0 → is_whole xs ≡ true → j < w → ((m : ℕ) → m < j → is_dimension (drop (1 + 5 * m) xs) ≡ true)
    → is_dimension (drop (1 + 5 * j) xs) ≡ false → dims_refusal xs ≡ Some (BadDimension j)
read_bad w j xs e whole l h b =
    let at = bad_at 0 w j (drop 1 xs) l (λ m k. rw (behind m xs) (h m k)) (rw (behind j xs) b) in
    rw (whole, ← e, at, zero-add j)
