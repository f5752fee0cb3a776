-- Rows of at most four numbers as arrays of four. Assumes nothing.
use Rattle.std.proofs.Common.{◌≡◌, ℕ, zero, suc, ◌-◌, ◌≤◌, [], ◌∷◌, length, take, drop, replicate, refl, ◌∙◌, arith}
use Rattle.std.proofs.lemmas.List.{take_all, length-take-le}
use Rattle.hierarchy.specs.Dimensions.{Row, four}

-- the first numbers of a row are those of its array
pub take_four : (n : ℕ) (xs : Row) → n ≤ 4 → n ≤ length xs → take n (four xs) ≡ take n xs
take_four zero xs p q = refl
take_four (suc n) [] p q = absurd (omega arith)
take_four (suc zero) (a ∷ xs) p q = refl
take_four (suc (suc n)) (a ∷ []) p q = absurd (omega arith)
take_four (suc (suc zero)) (a ∷ b ∷ xs) p q = refl
take_four (suc (suc (suc n))) (a ∷ b ∷ []) p q = absurd (omega arith)
take_four (suc (suc (suc zero))) (a ∷ b ∷ c ∷ xs) p q = refl
take_four (suc (suc (suc (suc n)))) (a ∷ b ∷ c ∷ []) p q = absurd (omega arith)
take_four (suc (suc (suc (suc zero)))) (a ∷ b ∷ c ∷ d ∷ xs) p q = refl
take_four (suc (suc (suc (suc (suc n))))) (a ∷ b ∷ c ∷ d ∷ xs) p q = absurd (omega arith)

-- a row in its array, whole
pub whole_four : (n : ℕ) (xs : Row) → n ≤ 4 → length xs ≡ n → take n (four xs) ≡ xs
whole_four n xs p e = take_four n xs p (omega arith) ∙ take_all n xs (omega arith)

-- the numbers of an array behind those of its row are 0
four_rest : (xs : Row) → length xs ≤ 4 → drop (length xs) (four xs) ≡ replicate (4 - length xs) 0
four_rest [] h = refl
four_rest (a ∷ []) h = refl
four_rest (a ∷ b ∷ []) h = refl
four_rest (a ∷ b ∷ c ∷ []) h = refl
four_rest (a ∷ b ∷ c ∷ d ∷ []) h = refl
four_rest (a ∷ b ∷ c ∷ d ∷ e ∷ xs) h = absurd (omega arith)

-- a place read from the front of a row
pub place_read : (w : ℕ) (xs at : Row) → w ≤ 4 → w ≤ length xs → at ≡ four (take w xs)
    → (take w at ≡ take w xs) × (drop w at ≡ replicate (4 - w) 0)
place_read w xs at few long is =
    let n : length (take w xs) ≡ w = length-take-le w xs long in
    let r = four_rest (take w xs) (omega arith) in
    (rw is (whole_four w (take w xs) few n), rw is (rw n at r))
