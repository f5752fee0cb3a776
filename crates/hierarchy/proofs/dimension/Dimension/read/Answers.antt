-- The array begins with the factors.
use Rattle.std.proofs.Common.{◌≡◌, ℕ, ◌+◌, ◌-◌, ◌≤◌, true, List, [], ◌∷◌, ◌++◌, length, get_or, take, drop, sym, ap, ◌∙◌, arith}
use Rattle.std.proofs.lemmas.Bool.{and_from, le-leb}
use Rattle.std.proofs.lemmas.List.{take_at, length-take-le, length-drop}
use Rattle.hierarchy.specs.Reading.{small, factors_in}
use Rattle.hierarchy.proofs.Products.{small_parts}
use Rattle.hierarchy.proofs.dimension.Dimension.read.Goals as goal

-- the part that was tested has the factors
is_small : (n : ℕ) (xs : List ℕ) → true ≡ small (take ((1 + n) - 1) xs) → small (take n xs) ≡ true
is_small n xs h = let e : (1 + n) - 1 ≡ n = omega arith in sym (rw e at h)

-- and so has the part that was copied
copied : (n : ℕ) (xs ys rest : List ℕ) → n ≤ length xs → ys ≡ take ((1 + n) - 1) xs → take n (ys ++ rest) ≡ take n xs
copied n xs ys rest h e =
    let k : (1 + n) - 1 ≡ n = omega arith in
    let same = rw k at e in
    take_at ys rest n (ap length same ∙ length-take-le n xs h) ∙ same

pub invariant_of-result : goal.invariant_of-result
invariant_of-result c =
    let e = copied (get_or c.args.row.now 0 0) (drop 1 c.args.row.now) c.copy_from_slice.new.self (drop (get_or c.args.row.now 0 0) (0 ∷ 0 ∷ 0 ∷ 0 ∷ [])) (omega (arith, length-drop 1 c.args.row.now)) c.copy_from_slice.ensures.after in
    let p = small_parts (factors_in c.args.row.now) (is_small (get_or c.args.row.now 0 0) (drop 1 c.args.row.now) c.if-not-product_is_small.ensures) in
    record { few = c.if-row-gt4.false; positive = rw e p.0; small = rw e p.1 }

pub returns : goal.returns
returns c =
    let e = copied (get_or c.args.row.now 0 0) (drop 1 c.args.row.now) c.copy_from_slice.new.self (drop (get_or c.args.row.now 0 0) (0 ∷ 0 ∷ 0 ∷ 0 ∷ [])) (omega (arith, length-drop 1 c.args.row.now)) c.copy_from_slice.ensures.after in
    let s = is_small (get_or c.args.row.now 0 0) (drop 1 c.args.row.now) c.if-not-product_is_small.ensures in
    (and_from _ _ (le-leb 5 (length c.args.row.now) (omega arith)) (and_from _ _ (le-leb _ 4 c.if-row-gt4.false) s), e)
