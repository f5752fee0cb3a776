-- What a search from the end of a range finds. Assumes nothing.
use Rattle.std.proofs.Common.{◌≡◌, ℕ, ◌+◌, ◌-◌, ◌<◌, ◌≤◌, Bool, true, false, Some, None, Option, ap, ◌∙◌, subst, arith}
use denote.Param.Members.{Mut}
use denote.Ref.{Bor}
use Rattle.std.specs.declared.ops.Range.{Range}
use Rattle.std.specs.Fn.{CalledAt}
use Rattle.std.specs.Iterator.Runs.{SomeRun, CallKeepsClosure, NoItemPasses, EndsAtFirstPassing}
use Rattle.std.specs.Option.{MatchOption, IfSome, IsSomeAnd, option_map, unwrap_or}
use Rattle.std.proofs.iter.runs.Sources.{nat_range_steps_back, range_listed_back}

-- what is said of an item is said of the number that it is
read : (P : ℕ → Type 0) (o : Option ℕ) (k : ℕ) → option_map (λ y. y) o ≡ Some k → IfSome o P → P k
read P None k e h = absurd (omega (arith, ap {B = ℕ} (λ (x : Option ℕ). unwrap_or (option_map (λ n. 0) x) 1) e))
read P (Some x) k e h = subst P (ap {B = ℕ} (λ (y : Option ℕ). unwrap_or y 0) e) h

weaken : (P : ℕ → Type 0) (o : Option ℕ) → IsSomeAnd o P → IfSome o P
weaken P None h = tt
weaken P (Some x) h = h

-- each item below the end of the range is asked, from the last on
pub last_found : {F : Type 0} {g : Mut F (Bor ℕ × Unit {0}) Bool} (s : Range ℕ) (f : F) (r : Option ℕ) (test : ℕ → Bool)
    → SomeRun nat_range_steps_back s (λ u. MatchOption r ((u.whole ≡ true) × NoItemPasses u g f) (EndsAtFirstPassing u g f))
    → CallKeepsClosure g f → ((k : ℕ) (b : Bool) → k < s.end → CalledAt g f k b f → test k ≡ b)
    → MatchOption r ((k : ℕ) → s.start ≤ k → k < s.end → test k ≡ false)
    (λ i. (i < s.end) × (test i ≡ true) × ((k : ℕ) → i < k → k < s.end → test k ≡ false))
last_found {F} {g} s f None test h keeps says =
    let u = h.0 in
    let c = range_listed_back u u.seen in
    let from = ap {B = ℕ} (λ (t : Range ℕ). t.start) h.1 in
    let to = ap {B = ℕ} (λ (t : Range ℕ). t.end) h.1 in
    λ k a b.
    let at = c.4.3 (c.1 - 1 - k) (omega (arith, c.4.1 h.2.0, c.2, c.3, from, to)) in
    let e : c.1 - 1 - (c.1 - 1 - k) ≡ k = omega (arith, c.3, to) in
    says k false b (read (λ n. CalledAt g f n false f) (u.at (c.1 - 1 - k)) k (at ∙ ap Some e) (h.2.1 keeps (c.1 - 1 - k)))
last_found {F} {g} s f (Some i) test h keeps says =
    let u = h.0 in
    let c = range_listed_back u u.seen in
    let j = h.2.0 in
    let called = h.2.3 keeps in
    let to = ap {B = ℕ} (λ (t : Range ℕ). t.end) h.1 in
    let here : (i + j + 1 ≡ c.1) × (c.0 ≤ i) = subst (λ o. IfSome o (λ x. (x + j + 1 ≡ c.1) × (c.0 ≤ x))) h.2.2 (c.4.2 j) in
    let within : i < s.end = omega (arith, here.0, c.3, to) in (
      within,
      says i true within called.0,
      λ k a b.
          let l : c.1 - 1 - k < j = omega (arith, here.0, c.3, to) in
          let at = c.4.3 (c.1 - 1 - k) (omega (arith, h.2.1)) in
          let e : c.1 - 1 - (c.1 - 1 - k) ≡ k = omega (arith, c.3, to) in
          let asked = weaken (λ n. CalledAt g f n false f) (u.at (c.1 - 1 - k)) (called.1 (c.1 - 1 - k) l) in
          says k false b (read (λ n. CalledAt g f n false f) (u.at (c.1 - 1 - k)) k (at ∙ ap Some e) asked),
    )
