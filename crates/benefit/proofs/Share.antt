-- The share 1 - (1 - 1/n)^n is at least 63 in a hundred for every n. (1 + 1/m)^m rises with m, so above a hundred its value
-- there serves; below, each is computed. Assumes nothing.
use Rattle.std.proofs.Common.{◌≡◌, ℕ, zero, suc, ◌+◌, ◌-◌, ◌*◌, ◌^◌, ◌<◌, ◌≤◌, Bool, true, ◌&&◌, leb, refl, ⊎_elim, mul-le-mul_right, mul-le-mul_left, pow-suc, arith}
use native.Mathlib.Nat.{pow-zero, one-le-pow, le_of_mul-le-mul_left}
use Rattle.std.proofs.lemmas.Nat.{mul-le}
use Rattle.std.proofs.lemmas.Bool.{leb-true, and_parts, cases_lt}
use Rattle.benefit.specs.Benefit.{saved, chosen}
use Rattle.benefit.specs.Promises.{SixtyThreeInAHundred}
use Rattle.benefit.proofs.Choice.{core}

mul_pow : (a b k : ℕ) → (a * b) ^ k ≡ a ^ k * b ^ k
mul_pow a b zero = rw (pow-zero (a * b), pow-zero a, pow-zero b)
mul_pow a b (suc k) = rw (pow-suc (a * b) k, pow-suc a k, pow-suc b k, mul_pow a b k) (omega arith)

-- Bernoulli's inequality, times (x + 1)^(n + 1)
bernoulli : (x n : ℕ) → suc x ^ n * suc x ≤ x ^ n * suc x + n * suc x ^ n
bernoulli x zero = rw (pow-zero x, pow-zero (suc x)) (omega arith)
bernoulli x (suc n) = rw (pow-suc x n, pow-suc (suc x) n) (omega (arith, mul-le-mul_right x (bernoulli x n)))

cancel : (m p r : ℕ) → p * (suc m * suc m) ≤ r * (suc m * suc m) + suc m * p → p * m ≤ r * suc m
cancel m p r h =
    let l : suc m * (p * suc m) ≤ suc m * (r * suc m + p) = omega arith in
    omega (arith, le_of_mul-le-mul_left l (omega arith))

-- (1 + 1/m)^m is at most (1 + 1/(m + 1))^(m + 1), with no fractions
rises : (m : ℕ) → 0 < m → suc m ^ suc m * suc m ^ m ≤ m ^ m * suc (suc m) ^ suc m
rises m h =
    let square : suc (m * suc (suc m)) ≡ suc m * suc m = omega arith in
    let b = rw (square, mul_pow (suc m) (suc m) (suc m), mul_pow m (suc (suc m)) (suc m)) at (bernoulli (m * suc (suc m)) (suc m)) in
    let c = rw (pow-suc (suc m) m, pow-suc m m) at (cancel m (suc m ^ suc m * suc m ^ suc m) (m ^ suc m * suc (suc m) ^ suc m) b) in
    let l : m * suc m * (suc m ^ suc m * suc m ^ m) ≤ m * suc m * (m ^ m * suc (suc m) ^ suc m) = rw (pow-suc (suc m) m) (omega (arith, c)) in
    le_of_mul-le-mul_left l (omega (arith, mul-le 1 1 m (suc m) h (omega arith)))

-- so a bound on the one is a bound on the next
rises_bound : (a b m : ℕ) → 0 < m → a * m ^ m ≤ b * suc m ^ m → a * suc m ^ suc m ≤ b * suc (suc m) ^ suc m
rises_bound a b m h k =
    let l : suc m ^ m * (a * suc m ^ suc m) ≤ suc m ^ m * (b * suc (suc m) ^ suc m)
    = omega (arith, mul-le-mul_left a (rises m h), mul-le-mul_right (suc (suc m) ^ suc m) k) in
    le_of_mul-le-mul_left l (one-le-pow m (suc m) (omega arith))

above : (d m : ℕ) → m ≡ 99 + d → 100 * m ^ m ≤ 37 * suc m ^ m
above zero m e = let z : m ≡ 99 = omega arith in rw z (leb-true (100 * 99 ^ 99) (37 * 100 ^ 99) refl)
above (suc d) zero e = absurd (omega arith)
above (suc d) (suc m) e = rises_bound 100 37 m (omega arith) (above d m (omega arith))

abbrev small : ℕ → Bool
small m = leb (100 * m ^ suc m) (37 * suc m ^ suc m)

abbrev all_small : ℕ → Bool
all_small zero = true
all_small (suc m) = small m && all_small m

below : (k m : ℕ) → all_small k ≡ true → m < k → 100 * m ^ suc m ≤ 37 * suc m ^ suc m
below zero m t h = absurd (omega arith)
below (suc k) m t h = ⊎_elim (λ l. below k m (and_parts (small k) (all_small k) t).1 l) (λ l. at (omega arith)) (cases_lt m k)
  where
    at : m ≡ k → 100 * m ^ suc m ≤ 37 * suc m ^ suc m
    at e = rw e (leb-true _ _ (and_parts (small k) (all_small k) t).0)

-- 100 (1 - 1/n)^n is at most 37, at n = m + 1
missing : (m : ℕ) → 100 * m ^ suc m ≤ 37 * suc m ^ suc m
missing m = ⊎_elim (λ h. below 99 m refl h) far (cases_lt m 99)
  where
    far : 99 ≤ m → 100 * m ^ suc m ≤ 37 * suc m ^ suc m
    far h =
        rw (pow-suc m m, pow-suc (suc m) m) (omega (arith, mul-le-mul_right m (above (m - 99) m (omega arith))))

pub sixty_three_in_a_hundred : SixtyThreeInAHundred
sixty_three_in_a_hundred ss sz zero os p e a = absurd (omega arith)
sixty_three_in_a_hundred ss sz (suc m) os p e a =
    let f = saved ss sz os in
    let s = saved ss sz (chosen ss sz (suc m)) in
    let l : suc m ^ suc m * (63 * f) ≤ suc m ^ suc m * (100 * s) = omega (arith, core ss sz os m e a (suc m), mul-le-mul_right f (missing m)) in
    le_of_mul-le-mul_left l (one-le-pow (suc m) (suc m) (omega arith))
