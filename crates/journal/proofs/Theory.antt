-- Days that are written and read again. Assumes nothing.
use Rattle.std.proofs.Common.{◌≡◌, ℕ, zero, suc, ◌+◌, ◌*◌, ◌/◌, ◌%◌, ◌^◌, ◌<◌, ◌≤◌, true, leb, List, [], ◌∷◌, ◌++◌, length, get_or, drop, sym, refl, ap, ◌∙◌, mod-eq_of_lt, one-add, arith, length-append, le-leb}
use native.Mathlib.Nat.{div-div-eq-div-mul, mod-add-div}
use Rattle.std.proofs.lemmas.List.{append_assoc, append-nil, drop-drop, drop_at}
use Rattle.std.proofs.lemmas.List.FromFn.{fill_by_all}
use Rattle.hierarchy.specs.Dimensions.{Row}
use Rattle.hierarchy.specs.Reading.{dims_in}
use Rattle.hierarchy.proofs.Parts.{next_place}
use Rattle.model.specs.House.{Deed, insert, delete, keep, drop_table, ask}
use Rattle.formats.specs.Bytes.{Bytes, number, numbers, numbers_out, sides_count, sides_of, behind_sides}
use Rattle.journal.specs.Deeds.{size_in, is_deed, deed_in, deed_out, deeds_in, deeds_past, deeds_out, is_whole, whole_past}
use Rattle.journal.specs.Promises.{Small, Writable, AllWritable, Sides, ReadBack, ToldBack, BrokenOff}
use Rattle.journal.proofs.Deeds.{deed_there, deeds_next, whole_next, deeds_stop, whole_stop}

-- a number written and read
by_bytes : (x a b c p q r : ℕ) → a + 256 * p ≡ x → b + 256 * q ≡ p → c + 256 * r ≡ q → a + b * 256 + c * 65536 + r * 16777216 ≡ x
by_bytes x a b c p q r h k l = omega arith

number_back : (x : ℕ) → x < 2 ^ 32 → x % 256 + x / 256 % 256 * 256 + x / 65536 % 256 * 65536 + x / 16777216 % 256 * 16777216 ≡ x
number_back x h =
    let p : x / 256 / 256 ≡ x / 65536 = div-div-eq-div-mul x 256 256 in
    let q : x / 65536 / 256 ≡ x / 16777216 = div-div-eq-div-mul x 65536 256 in
    let last : x / 16777216 < 256 = omega arith in
    let r : x / 16777216 % 256 ≡ x / 16777216 = mod-eq_of_lt last in
    rw r
    (by_bytes x (x % 256) (x / 256 % 256) (x / 65536 % 256) (x / 256) (x / 65536) (x / 16777216) (mod-add-div x 256)
    (ap (λ n. x / 256 % 256 + 256 * n) (sym p) ∙ mod-add-div (x / 256) 256)
    (ap (λ n. x / 65536 % 256 + 256 * n) (sym q) ∙ mod-add-div (x / 65536) 256))

numbers_long : (xs : Row) → length (numbers_out xs) ≡ 4 * length xs
numbers_long [] = refl
numbers_long (x ∷ xs) = omega (arith, numbers_long xs)

number_at : (xs : Row) (rest : Bytes) (i : ℕ) → Small xs → i < length xs → get_or xs i 0 ≡ number (drop (4 * i) (numbers_out xs ++ rest))
number_at [] rest i s h = absurd (omega arith)
number_at (x ∷ xs) rest zero s h = sym (number_back x (s 0 (omega arith)))
number_at (x ∷ xs) rest (suc i) s h =
    rw (next_place 4 i, ← drop-drop (4 * i) 4 (numbers_out (x ∷ xs) ++ rest)) (number_at xs rest i (λ j l. s (suc j) (omega arith)) (omega arith))

-- a row of numbers written and read: the numbers, what lies behind them, and that they are there
record RowBack (xs : Row) (rest : Bytes) (m : ℕ) : Type 0 where
  read : numbers m (numbers_out xs ++ rest) ≡ xs
  behind : drop (4 * m) (numbers_out xs ++ rest) ≡ rest
  there : 4 * m ≤ length (numbers_out xs ++ rest)

row_back : (xs : Row) (rest : Bytes) (m : ℕ) → length xs ≡ m → Small xs → RowBack xs rest m
row_back xs rest m e s =
    let n = numbers_long xs in
    record {
      read = sym (fill_by_all (λ i. number (drop (4 * i) (numbers_out xs ++ rest))) xs m 0 e (λ i h. number_at xs rest i s (omega arith)));
      behind = drop_at (numbers_out xs) rest (4 * m) (n ∙ ap (λ k. 4 * k) e);
      there = omega (arith, length-append (numbers_out xs) rest);
    }

-- a deed written and read
record DeedBack (w n : ℕ) (d : Deed) (rest : Bytes) : Type 0 where
  there : is_deed w (deed_out d ++ rest) ≡ true
  read : deed_in w n (deed_out d ++ rest) ≡ d
  behind : drop (1 + 4 * size_in w (deed_out d ++ rest)) (deed_out d ++ rest) ≡ rest

passed : (b m : ℕ) (bs : Bytes) → drop (1 + m) (b ∷ bs) ≡ drop m bs
passed b m bs = rw one-add

deed_back : (w n : ℕ) (d : Deed) (rest : Bytes) → Writable w n d → DeedBack w n d rest
deed_back w n (insert xs) rest h =
    let r = row_back xs rest (w + 1) h.0 h.1 in
    record {
      there = deed_there w (0 ∷ numbers_out xs ++ rest) (omega arith) (omega (arith, r.there));
      read = ap insert r.read;
      behind = passed 0 (4 * (w + 1)) (numbers_out xs ++ rest) ∙ r.behind;
    }
deed_back w n (delete xs) rest h =
    let r = row_back xs rest (w + 1) h.0 h.1 in
    record {
      there = deed_there w (1 ∷ numbers_out xs ++ rest) (omega arith) (omega (arith, r.there));
      read = ap delete r.read;
      behind = passed 1 (4 * (w + 1)) (numbers_out xs ++ rest) ∙ r.behind;
    }
deed_back w n (keep xs) rest h =
    let r = row_back xs rest w h.0 h.1 in
    record {
      there = deed_there w (2 ∷ numbers_out xs ++ rest) (omega arith) (omega (arith, r.there));
      read = ap keep r.read;
      behind = passed 2 (4 * w) (numbers_out xs ++ rest) ∙ r.behind;
    }
deed_back w n (drop_table xs) rest h =
    let r = row_back xs rest w h.0 h.1 in
    record {
      there = deed_there w (3 ∷ numbers_out xs ++ rest) (omega arith) (omega (arith, r.there));
      read = ap drop_table r.read;
      behind = passed 3 (4 * w) (numbers_out xs ++ rest) ∙ r.behind;
    }
deed_back w n (ask xs m) rest h =
    let r = row_back xs rest w h.0 h.1 in
    record {
      there = deed_there w (4 ∷ numbers_out xs ++ rest) (omega arith) (omega (arith, r.there));
      read = ap (λ ys. ask ys n) r.read ∙ ap (ask xs) (sym h.2);
      behind = passed 4 (4 * w) (numbers_out xs ++ rest) ∙ r.behind;
    }

-- deeds written, with anything behind them
deeds_back : (w n : ℕ) (ds : List Deed) (rest : Bytes) → AllWritable w n ds
    → (deeds_in w n (deeds_out ds ++ rest) ≡ ds ++ deeds_in w n rest) × (is_whole w (deeds_out ds ++ rest) ≡ is_whole w rest)
deeds_back w n [] rest h = (refl, refl)
deeds_back w n (d ∷ ds) rest h =
    let more = deeds_out ds ++ rest in
    let bs = deed_out d ++ more in
    let one = deed_back w n d more (h 0 d (omega arith)) in
    let next = deeds_back w n ds rest (λ i e l. h (suc i) e (omega arith)) in
    let a : deeds_out (d ∷ ds) ++ rest ≡ bs = append_assoc (deed_out d) (deeds_out ds) rest in
    let b = deeds_next w n bs one.there in
    let c = whole_next w bs one.there in
    (rw (a, b, one.read, one.behind, next.0), rw (a, c, one.behind) next.1)

-- the dimensions written, with anything behind them
sides_back : (xs : Row) (rest : Bytes) → Sides xs → (sides_of (numbers_out xs ++ rest) ≡ xs) × (behind_sides (numbers_out xs ++ rest) ≡ rest)
sides_back xs rest h =
    let bs = numbers_out xs ++ rest in
    let first : number bs ≡ get_or xs 0 0 = sym (number_at xs rest 0 h.2 (omega arith)) in
    let few : leb (number bs) 4 ≡ true = le-leb (number bs) 4 (omega arith) in
    let r = row_back xs rest (length xs) refl h.2 in
    let all : sides_count bs ≡ length xs = rw (few, first) (omega (arith, r.there)) in
    (ap (λ k. numbers k bs) all ∙ r.read, ap (λ k. drop (4 * k) bs) all ∙ r.behind)

pub read_back : ReadBack
unfolding deeds_past whole_past
read_back w n xs ds s h =
    let a = sides_back xs (deeds_out ds) s in
    let b = deeds_back w n ds [] h in
    let e = append-nil (deeds_out ds) in
    (a.0, rw a.1 (ap (deeds_in w n) (sym e) ∙ (b.0 ∙ append-nil ds)), rw a.1 (ap (is_whole w) (sym e) ∙ b.1))

pub told_back : ToldBack
told_back lim n xs ds s none h =
    let a = sides_back xs (deeds_out ds) s in
    let b = read_back (length (dims_in xs)) n xs ds s h in
    (rw (a.0, none, b.1), rw (a.0, none) b.2)

pub broken_off : BrokenOff
broken_off w n ds rest h none l =
    let a = deeds_back w n ds rest h in
    (a.0 ∙ (ap (λ es. ds ++ es) (deeds_stop w n rest none) ∙ append-nil ds), a.1 ∙ whole_stop w rest none l)
