-- What is read is what stood there: numbers and deeds read from bytes and written again. Assumes nothing.
use Rattle.std.proofs.Common.{◌≡◌, ℕ, zero, suc, ◌+◌, ◌*◌, ◌/◌, ◌%◌, ◌<◌, ◌≤◌, Bool, true, false, ◌&&◌, leb, [], ◌∷◌, ◌++◌, length, get_or, take, drop, sym, refl, ap, ◌∙◌, mod-eq_of_lt, zero-add, add-one, one-add, arith, length-drop, leb-true}
use native.Mathlib.Nat.{div-div-eq-div-mul}
use lib.Arith.{digits_div, digits_mod}
use borrow.Author.Tests.{clash}
use Rattle.std.proofs.lemmas.List.{take-append-drop, get_or-drop}
use Rattle.std.proofs.lemmas.List.FromFn.{map-range_with_len_more}
use Rattle.std.proofs.lemmas.Bool.{and_parts}
use Rattle.hierarchy.proofs.Parts.{take_add, out_append}
use Rattle.hierarchy.specs.Dimensions.{Row}
use Rattle.formats.specs.Bytes.{Bytes, number, number_out, numbers, numbers_out}
use Rattle.journal.specs.Deeds.{kind_of, deed_of, size_in, is_deed, deed_in, deed_out, deeds_in, deeds_past, deeds_out, is_whole}
use Rattle.journal.specs.Promises.{WrittenBack}
use Rattle.journal.proofs.Deeds.{deeds_next, whole_next, whole_stop}

abbrev AllBytes : Bytes → Type 0
AllBytes bs = (i : ℕ) → i < length bs → get_or bs i 0 < 256

bytes_behind : (k : ℕ) (bs : Bytes) → AllBytes bs → AllBytes (drop k bs)
bytes_behind k bs h i l = rw get_or-drop (h (k + i) (omega (arith, length-drop k bs)))

-- a number read and written
four_kept : (a b c d : ℕ) → a < 256 → b < 256 → c < 256 → d < 256
    → number_out (a + b * 256 + c * 65536 + d * 16777216) ≡ a ∷ b ∷ c ∷ d ∷ []
four_kept a b c d ha hb hc hd =
    let x = a + b * 256 + c * 65536 + d * 16777216 in
    let p = b + c * 256 + d * 65536 in
    let q = c + d * 256 in
    let e : x ≡ p * 256 + a = omega arith in
    let f : p ≡ q * 256 + b = omega arith in
    let g : q ≡ d * 256 + c = omega arith in
    let x/256 : x / 256 ≡ p = ap (λ n. n / 256) e ∙ digits_div p ha in
    let p/256 : p / 256 ≡ q = ap (λ n. n / 256) f ∙ digits_div q hb in
    let q/256 : q / 256 ≡ d = ap (λ n. n / 256) g ∙ digits_div d hc in
    let r : x / 65536 ≡ q = sym (div-div-eq-div-mul x 256 256) ∙ (ap (λ n. n / 256) x/256 ∙ p/256) in
    let s : x / 16777216 ≡ d = sym (div-div-eq-div-mul x 65536 256) ∙ (ap (λ n. n / 256) r ∙ q/256) in
    let m₀ : x % 256 ≡ a = ap (λ n. n % 256) e ∙ digits_mod p ha in
    let m₁ : x / 256 % 256 ≡ b = ap (λ n. n % 256) (x/256 ∙ f) ∙ digits_mod q hb in
    let m₂ : x / 65536 % 256 ≡ c = ap (λ n. n % 256) (r ∙ g) ∙ digits_mod d hc in
    let m₃ : x / 16777216 % 256 ≡ d = ap (λ n. n % 256) s ∙ mod-eq_of_lt hd in
    rw (m₀, m₁, m₂, m₃)

number_kept : (bs : Bytes) → 4 ≤ length bs → AllBytes bs → number_out (number bs) ≡ take 4 bs
number_kept [] l h = absurd (omega arith)
number_kept (a ∷ []) l h = absurd (omega arith)
number_kept (a ∷ b ∷ []) l h = absurd (omega arith)
number_kept (a ∷ b ∷ c ∷ []) l h = absurd (omega arith)
number_kept (a ∷ b ∷ c ∷ d ∷ bs) l h = four_kept a b c d (h 0 (omega arith)) (h 1 (omega arith)) (h 2 (omega arith)) (h 3 (omega arith))

numbers_kept : (m : ℕ) (bs : Bytes) → 4 * m ≤ length bs → AllBytes bs → numbers_out (numbers m bs) ≡ take (4 * m) bs
numbers_kept zero bs l h = refl
numbers_kept (suc m) bs l h =
    let rest = drop (4 * m) bs in
    let a : numbers (suc m) bs ≡ numbers m bs ++ (number rest ∷ []) =
    ap (λ k. numbers k bs) (sym (add-one m)) ∙ map-range_with_len_more (λ i. number (drop (4 * i) bs)) 0 m m (zero-add m) in
    let b : numbers_out (numbers m bs ++ (number rest ∷ [])) ≡ numbers_out (numbers m bs) ++ (number_out (number rest) ++ []) =
    out_append number 4 number_out (numbers m bs) (number rest ∷ []) in
    let c = numbers_kept m bs (omega arith) h in
    let d = number_kept rest (omega (arith, length-drop (4 * m) bs)) (bytes_behind (4 * m) bs h) in
    let e : take (4 * m + 4) bs ≡ take (4 * m) bs ++ take 4 rest = take_add (4 * m) 4 bs in
    let f : 4 * suc m ≡ 4 * m + 4 = omega arith in
    ap numbers_out a ∙ (b ∙ rw (f, e, c, d))

-- a deed read and written
byte_kept : (n b : ℕ) (xs : Row) → b ≤ 4 → deed_out (deed_of n (kind_of b) xs) ≡ b ∷ numbers_out xs
byte_kept n zero xs h = refl
byte_kept n (suc zero) xs h = refl
byte_kept n (suc (suc zero)) xs h = refl
byte_kept n (suc (suc (suc zero))) xs h = refl
byte_kept n (suc (suc (suc (suc zero)))) xs h = refl
byte_kept n (suc (suc (suc (suc (suc b))))) xs h = absurd (omega arith)

deed_kept : (w n : ℕ) (bs : Bytes) → is_deed w bs ≡ true → AllBytes bs → deed_out (deed_in w n bs) ≡ take (1 + 4 * size_in w bs) bs
deed_kept w n [] t h = absurd (clash t)
deed_kept w n (b ∷ bs) t h =
    let k = size_in w (b ∷ bs) in
    let some = and_parts (leb 1 (length (b ∷ bs))) (leb b 4 && leb (1 + 4 * k) (length (b ∷ bs))) t in
    let p = and_parts (leb b 4) (leb (1 + 4 * k) (length (b ∷ bs))) some.1 in
    let low = leb-true b 4 p.0 in
    let long = leb-true (1 + 4 * k) (length (b ∷ bs)) p.1 in
    let a = numbers_kept k bs (omega arith) (λ i l. h (suc i) (omega arith)) in
    let e : take (1 + 4 * k) (b ∷ bs) ≡ b ∷ take (4 * k) bs = rw one-add in
    byte_kept n b (numbers k bs) low ∙ (ap (λ ys. b ∷ ys) a ∙ sym e)

-- a whole file: the first deed, and those behind it
kept_next : (w n : ℕ) (bs : Bytes) → 0 < length bs → AllBytes bs → is_whole w bs ≡ true
    → ((rest : Bytes) → length rest < length bs → AllBytes rest → is_whole w rest ≡ true → deeds_out (deeds_in w n rest) ≡ rest)
    → (v : Bool) → is_deed w bs ≡ v → deeds_out (deeds_in w n bs) ≡ bs
kept_next w n bs some h t more false e = absurd (clash (sym (whole_stop w bs e some) ∙ t))
kept_next w n bs some h t more true e =
    let k = 1 + 4 * size_in w bs in
    let rest = drop k bs in
    let a = deeds_next w n bs e in
    let b = more rest (omega (arith, length-drop k bs)) (bytes_behind k bs h) (sym (whole_next w bs e) ∙ t) in
    let c = deed_kept w n bs e h in
    ap deeds_out a
    ∙ (ap (λ ys. ys ++ deeds_out (deeds_in w n rest)) c ∙ (ap (λ ys. take k bs ++ ys) b ∙ take-append-drop k bs))

kept : (w n j : ℕ) (bs : Bytes) → length bs ≤ j → AllBytes bs → is_whole w bs ≡ true → deeds_out (deeds_in w n bs) ≡ bs
unfolding deeds_past
kept w n j [] l h t = refl
kept w n zero (b ∷ bs) l h t = absurd (omega arith)
kept w n (suc j) (b ∷ bs) l h t =
    kept_next w n (b ∷ bs) (omega arith) h t (λ rest m. kept w n j rest (omega arith)) (is_deed w (b ∷ bs)) refl

pub written_back : WrittenBack
written_back w n bs h t = kept w n (length bs) bs (omega arith) h t
