-- How the deeds of a file follow one another. Assumes nothing.
use Rattle.std.proofs.Common.{◌≡◌, ℕ, zero, suc, ◌+◌, ◌*◌, ◌<◌, ◌≤◌, true, false, leb, [], ◌∷◌, length, get_or, take, drop, sym, refl, ap, ◌∙◌, one-add, arith, le-leb}
use borrow.Author.Tests.{clash}
use Rattle.hierarchy.specs.Dimensions.{Row}
use Rattle.formats.specs.Bytes.{Bytes, numbers}
use Rattle.journal.specs.Deeds.{kind_of, deed_of, size_in, is_deed, deed_in, deeds_past, deeds_in, whole_past, is_whole}
use Rattle.journal.specs.Steps.{Reads}
use Rattle.journal.specs.declared.deed.Kind.{Kind}

-- bytes begin with a deed
pub deed_there : (w : ℕ) (bs : Bytes) → get_or bs 0 0 ≤ 4 → 1 + 4 * size_in w bs ≤ length bs → is_deed w bs ≡ true
deed_there w bs h l =
    let a : leb 1 (length bs) ≡ true = le-leb 1 (length bs) (omega arith) in
    let b : leb (get_or bs 0 0) 4 ≡ true = le-leb (get_or bs 0 0) 4 h in
    let c : leb (1 + 4 * size_in w bs) (length bs) ≡ true = le-leb (1 + 4 * size_in w bs) (length bs) l in
    rw (a, b, c)

-- passing bytes over is leaving them out
pub deeds_drop : (w n k : ℕ) (bs : Bytes) → deeds_past w n k bs ≡ deeds_in w n (drop k bs)
unfolding deeds_past
deeds_drop w n zero bs = refl
deeds_drop w n (suc k) [] = refl
deeds_drop w n (suc k) (b ∷ bs) = deeds_drop w n k bs

pub whole_drop : (w k : ℕ) (bs : Bytes) → whole_past w k bs ≡ is_whole w (drop k bs)
unfolding whole_past
whole_drop w zero bs = refl
whole_drop w (suc k) [] = refl
whole_drop w (suc k) (b ∷ bs) = whole_drop w k bs

-- a deed, and then those of the bytes behind it
pub deeds_next : (w n : ℕ) (bs : Bytes) → is_deed w bs ≡ true → deeds_in w n bs ≡ deed_in w n bs ∷ deeds_in w n (drop (1 + 4 * size_in w bs) bs)
unfolding deeds_past
deeds_next w n [] h = absurd (clash h)
deeds_next w n (b ∷ bs) h =
    let k = 4 * size_in w (b ∷ bs) in
    let e : drop (1 + k) (b ∷ bs) ≡ drop k bs = rw one-add in
    rw (h, e) (ap (λ ds. deed_in w n (b ∷ bs) ∷ ds) (deeds_drop w n k bs))

pub whole_next : (w : ℕ) (bs : Bytes) → is_deed w bs ≡ true → is_whole w bs ≡ is_whole w (drop (1 + 4 * size_in w bs) bs)
unfolding whole_past
whole_next w [] h = absurd (clash h)
whole_next w (b ∷ bs) h =
    let k = 4 * size_in w (b ∷ bs) in
    let e : drop (1 + k) (b ∷ bs) ≡ drop k bs = rw one-add in
    rw (h, e) (whole_drop w k bs)

-- no deed: what was told before it is all, and the day is whole only where the file ends
pub deeds_stop : (w n : ℕ) (bs : Bytes) → is_deed w bs ≡ false → deeds_in w n bs ≡ []
unfolding deeds_past
deeds_stop w n [] h = refl
deeds_stop w n (b ∷ bs) h = rw h

pub whole_stop : (w : ℕ) (bs : Bytes) → is_deed w bs ≡ false → 0 < length bs → is_whole w bs ≡ false
unfolding whole_past
whole_stop w [] h l = absurd (omega arith)
whole_stop w (b ∷ bs) h l = rw h

-- the same by what a step says
pub deeds_read : (w n : ℕ) (bs : Bytes) (kind : Kind) (count : ℕ) (xs : Row) (rest : Bytes) → Reads w bs kind count xs rest
    → deeds_in w n bs ≡ deed_of n kind (take count xs) ∷ deeds_in w n rest
deeds_read w n bs kind count xs rest r =
    let a = deeds_next w n bs r.there in
    let b : deed_in w n bs ≡ deed_of n kind (take count xs) =
    ap (λ k. deed_of n (kind_of (get_or bs 0 0)) (numbers k (drop 1 bs))) (sym r.size)
    ∙ (ap (λ k. deed_of n k (numbers count (drop 1 bs))) (sym r.which) ∙ ap (deed_of n kind) (sym r.read)) in
    let c : drop (1 + 4 * size_in w bs) bs ≡ rest = ap (λ k. drop (1 + 4 * k) bs) (sym r.size) ∙ sym r.behind in
    a ∙ (ap (λ d. d ∷ deeds_in w n (drop (1 + 4 * size_in w bs) bs)) b ∙ ap (λ ys. deed_of n kind (take count xs) ∷ deeds_in w n ys) c)

pub whole_read : (w : ℕ) (bs : Bytes) (kind : Kind) (count : ℕ) (xs : Row) (rest : Bytes) → Reads w bs kind count xs rest → is_whole w bs ≡ is_whole w rest
whole_read w bs kind count xs rest r =
    whole_next w bs r.there ∙ ap (is_whole w) (ap (λ k. drop (1 + 4 * k) bs) (sym r.size) ∙ sym r.behind)
