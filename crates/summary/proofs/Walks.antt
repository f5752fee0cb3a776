-- Groups gone through one after the other, each by the numbers that it takes. Assumes nothing.
use Rattle.std.proofs.Common.{◌≡◌, ℕ, suc, ◌+◌, ◌-◌, ◌*◌, ◌<◌, ◌≤◌, List, ◌++◌, length, get_or, take, drop, sym, refl, ap, ◌∙◌, inl, inr, arith, length-append}
use Rattle.std.proofs.lemmas.List.{take_at, drop_at, drop-drop, drop-take, take-take, length-take-le, length-drop}
use Rattle.std.proofs.lemmas.Bool.{cases_lt}
use Rattle.hierarchy.proofs.Parts.{next_place, place_le, part_at}
use Rattle.summary.specs.Memory.{stride, cell_in, count_in, table_in, none, Whole}

-- the numbers of all groups, and those from the k-th group on
abbrev pub from_group : ℕ → ℕ → List ℕ → List ℕ
from_group w k xs = drop (stride w * k) (take (stride w * count_in w xs) (drop (w + 1) xs))

pub first_group : (w : ℕ) (xs rest : List ℕ) → rest ≡ take (stride w * count_in w xs) (drop (w + 1) xs) → rest ≡ from_group w 0 xs
first_group w xs rest h =
    let z : stride w * 0 ≡ 0 = omega arith in
    rw (z, h) refl

groups_long : (w : ℕ) (xs : List ℕ) → Whole w xs → length (take (stride w * count_in w xs) (drop (w + 1) xs)) ≡ stride w * count_in w xs
groups_long w xs whole = length-take-le (stride w * count_in w xs) (drop (w + 1) xs) (omega (arith, length-drop (w + 1) xs))

left_long : (w k : ℕ) (xs rest : List ℕ) → Whole w xs → rest ≡ from_group w k xs → length rest ≡ stride w * count_in w xs - stride w * k
left_long w k xs rest whole is = ap length is ∙ (length-drop (stride w * k) _ ∙ ap (λ j. j - stride w * k) (groups_long w xs whole))

-- where there are no more numbers, all groups were gone through
pub no_group : (w k size : ℕ) (xs rest : List ℕ) → Whole w xs → rest ≡ from_group w k xs → size ≡ stride w → k ≤ count_in w xs → length rest < size
    → k ≡ count_in w xs
no_group w k size xs rest whole is e h l =
    elim (cases_lt k (count_in w xs)) [
      | inl a ↦
          absurd (omega (arith, place_le (stride w) (suc k) (count_in w xs) a, next_place (stride w) k, left_long w k xs rest whole is))
      | inr a ↦ omega (arith, a)
    ]

-- the next part is the k-th group, and behind it are the numbers from the next on
pub next_group : (w k size : ℕ) (xs rest part more : List ℕ) → Whole w xs → rest ≡ from_group w k xs → size ≡ stride w → rest ≡ part ++ more
    → length part ≡ size
    → (k < count_in w xs) × (cell_in w part ≡ get_or (table_in w xs) k none) × (more ≡ from_group w (k + 1) xs)
next_group w k size xs rest part more whole is e cut long =
    let n = count_in w xs in
    let s = stride w in
    let zs = drop (w + 1) xs in
    let m = s * n - s * k in
    let left = left_long w k xs rest whole is in
    let there : k < n =
    elim (cases_lt k n) [
      | inl a ↦ a
      | inr a ↦ absurd (omega (arith, place_le s n k a, left, ap length cut, length-append part more))
    ] in
    let room : s * k + s ≤ s * n = omega (arith, place_le s (suc k) n there, next_place s k) in
    let split : s * n ≡ s * k + m = omega arith in
    let size : length part ≡ s = long ∙ e in
    let front : take s rest ≡ part = rw cut (take_at part more s size) in
    let inner : take s rest ≡ take s (drop (s * k) zs) = rw (is, split, drop-take (s * k) m zs) (take-take s m (drop (s * k) zs) (omega arith)) in
    let behind : drop s rest ≡ more = rw cut (drop_at part more s size) in
    let on : s * k + s ≡ s * (k + 1) = omega (arith, next_place s k) in (
      there,
      ap (cell_in w) (sym front ∙ inner) ∙ sym (part_at (cell_in w) s k n zs none there),
      sym behind ∙ (ap (drop s) is ∙ (drop-drop s (s * k) (take (s * n) zs) ∙ ap (λ j. drop j (take (s * n) zs)) on)),
    )
