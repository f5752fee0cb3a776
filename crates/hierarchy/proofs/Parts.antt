-- The laws of equal parts one behind the other: f reads a part, out writes it, s is how long each is. Assumes nothing.
use Rattle.std.proofs.Common.{◌≡◌, ℕ, zero, suc, ◌+◌, ◌-◌, ◌*◌, ◌<◌, ◌≤◌, List, [], ◌∷◌, ◌++◌, length, get_or, take, drop, set, sym, refl, ap, ◌∙◌, add_assoc, suc-add, mul-le-mul_left, mul-zero, zero-add, mul-suc, mul-add, arith, length-append, length-drop}
use borrow.Rule.Slice.PartMut.{put_mid}
use Rattle.std.specs.List.{flat_map, between, insert, remove}
use lib.Seq.{paste}
use Rattle.std.proofs.lemmas.List.{append_assoc, append-nil, take-append-drop, take-take, take_at, drop_at, drop-drop, drop-take, length-take-le, take-append-le, set_split}
use Rattle.hierarchy.specs.Parts.{parts}

-- numbers of the parts' places
pub next_place : (s i : ℕ) → s * suc i ≡ s + s * i
next_place s i = omega (arith, mul-suc s i)

-- the first k parts lie in the room of n
pub place_le : (s k n : ℕ) → k ≤ n → s * k ≤ s * n
place_le s k n h = mul-le-mul_left s h

-- what memory holds after moves and writes, for lists of anything
pub take_add : {A : Type 0} (a b : ℕ) (xs : List A) → take (a + b) xs ≡ take a xs ++ take b (drop a xs)
take_add zero b xs = rw zero-add
take_add (suc a) zero [] = rw (suc-add a zero)
take_add (suc a) (suc b) [] = rw (suc-add a (suc b))
take_add (suc a) b (x ∷ xs) = rw (suc-add a b) (ap (λ ys. x ∷ ys) (take_add a b xs))

-- a write or a move behind the first h, which stay
pub put_mid_behind : {A : Type 0} (h a k : ℕ) (xs ys : List A) → put_mid (h + a) k xs ys ≡ take h xs ++ put_mid a k (drop h xs) ys
put_mid_behind h a k xs ys = rw (take_add h a xs, drop-drop a h xs, append_assoc)

pub paste_behind : {A : Type 0} (h a b k : ℕ) (xs : List A)
    → paste xs (h + a) (drop (h + b) xs) k ≡ take h xs ++ paste (drop h xs) a (drop b (drop h xs)) k
paste_behind h a b k xs =
    let e : drop (h + a + k) xs ≡ drop (a + k) (drop h xs) = ap (λ n. drop n xs) (add_assoc h a k) ∙ sym (drop-drop (a + k) h xs) in
    rw (take_add h a xs, e, ← drop-drop b h xs) (simp append_assoc)

pub between_rest : {A : Type 0} (a e : ℕ) (xs : List A) → a ≤ e → between a e xs ++ drop e xs ≡ drop a xs
between_rest a e xs h =
    let p = take-append-drop (e - a) (drop a xs) in
    let q : drop (e - a) (drop a xs) ≡ drop e xs = drop-drop (e - a) a xs ∙ ap (λ n. drop n xs) (omega arith) in
    cc

-- what lies from a to e moves up by s, and ys is written into the gap
pub gap_filled : {A : Type 0} (a e s : ℕ) (xs ys : List A) → a ≤ e → e + s ≤ length xs → length ys ≡ s
    → put_mid a s (paste xs (a + s) (drop a xs) (e - a)) ys ≡ take a xs ++ (ys ++ (between a e xs ++ drop (e + s) xs))
gap_filled a e s xs ys h l n =
    let mid = between a e xs in
    let p = paste xs (a + s) (drop a xs) (e - a) in
    let long : length (take (a + s) xs) ≡ a + s = length-take-le (a + s) xs (omega arith) in
    let e₀ : p ≡ take (a + s) xs ++ (mid ++ drop (a + s + (e - a)) xs) = append_assoc (take (a + s) xs) mid (drop (a + s + (e - a)) xs) in
    let e₁ : take a p ≡ take a xs =
    ap (take a) e₀ ∙ (take-append-le a (take (a + s) xs) _ (omega arith) ∙ take-take a (a + s) xs (omega arith)) in
    let e₂ : drop s (drop a p) ≡ mid ++ drop (a + s + (e - a)) xs = drop-drop s a p ∙ (ap (drop (a + s)) e₀ ∙ drop_at (take (a + s) xs) _ (a + s) long) in
    let e₃ : drop (a + s + (e - a)) xs ≡ drop (e + s) xs = ap (λ j. drop j xs) (omega arith) in
    cc

-- what lies from a + s to e moves down by s
pub closed_up : {A : Type 0} (a e s : ℕ) (xs : List A) → a + s ≤ e → e ≤ length xs
    → paste xs a (drop (a + s) xs) (e - (a + s)) ≡ take a xs ++ (between (a + s) e xs ++ drop (e - s) xs)
closed_up a e s xs h l =
    let m : a + (e - (a + s)) ≡ e - s = omega arith in
    append_assoc (take a xs) (between (a + s) e xs) (drop (a + (e - (a + s))) xs) ∙ ap (λ j. take a xs ++ (between (a + s) e xs ++ drop j xs)) m

module _ {X : Type 0} (f : List ℕ → X) (s : ℕ) where
  pub parts_length : (k : ℕ) (xs : List ℕ) → length (parts f s k xs) ≡ k
  unfolding parts
  parts_length zero xs = refl
  parts_length (suc k) xs = ap suc (parts_length k (drop s xs))

  -- the part at i is read from where it lies
  pub part_at : (i k : ℕ) (xs : List ℕ) (d : X) → i < k → get_or (parts f s k xs) i d ≡ f (take s (drop (s * i) xs))
  unfolding parts
  part_at i zero xs d h = absurd (omega arith)
  part_at zero (suc k) xs d h = rw mul-zero
  part_at (suc i) (suc k) xs d h = rw (next_place s i, ← drop-drop (s * i) s xs) (part_at i k (drop s xs) d (omega arith))

  -- the first i parts, and those behind them
  pub parts_split : (i k : ℕ) (xs : List ℕ) → parts f s (i + k) xs ≡ parts f s i xs ++ parts f s k (drop (s * i) xs)
  unfolding parts
  parts_split zero k xs = rw (zero-add, mul-zero)
  parts_split (suc i) k xs = rw (suc-add i k, next_place s i, ← drop-drop (s * i) s xs) (ap (λ ys. f (take s xs) ∷ ys) (parts_split i k (drop s xs)))

  pub take_parts : (i k : ℕ) (xs : List ℕ) → i ≤ k → take i (parts f s k xs) ≡ parts f s i xs
  take_parts i k xs h =
      let e : k ≡ i + (k - i) = omega arith in
      ap (λ n. take i (parts f s n xs)) e ∙ (ap (take i) (parts_split i (k - i) xs) ∙ take_at _ _ i (parts_length i xs))

  pub drop_parts : (i k : ℕ) (xs : List ℕ) → i ≤ k → drop i (parts f s k xs) ≡ parts f s (k - i) (drop (s * i) xs)
  drop_parts i k xs h =
      let e : k ≡ i + (k - i) = omega arith in
      ap (λ n. drop i (parts f s n xs)) e ∙ (ap (drop i) (parts_split i (k - i) xs) ∙ drop_at _ _ i (parts_length i xs))

  -- only what lies in the parts counts
  pub parts_within : (k : ℕ) (xs : List ℕ) → parts f s k (take (s * k) xs) ≡ parts f s k xs
  unfolding parts
  parts_within zero xs = refl
  parts_within (suc k) xs =
      let a : take s (take (s + s * k) xs) ≡ take s xs = take-take s (s + s * k) xs (omega arith) in
      let b : drop s (take (s + s * k) xs) ≡ take (s * k) (drop s xs) = drop-take s (s * k) xs in
      let c = parts_within k (drop s xs) in
      rw (next_place s k, a, b, c)

  -- as many parts as a list of numbers begins with
  pub parts_append : (k : ℕ) (xs ys : List ℕ) → length xs ≡ s * k → parts f s k (xs ++ ys) ≡ parts f s k xs
  parts_append k xs ys h =
      let a = parts_within k (xs ++ ys) in
      let b = take_at xs ys (s * k) h in
      sym a ∙ ap (parts f s k) b

  module _ (out : X → List ℕ) where
    pub length_out : (t : List X) → ((i : ℕ) (d : X) → i < length t → length (out (get_or t i d)) ≡ s) → length (flat_map out t) ≡ s * length t
    length_out [] h = rw mul-zero
    length_out (x ∷ t) h =
        let a : length (out x) ≡ s = h 0 x (omega arith) in
        let b = length_out t (λ i d l. h (suc i) d (omega arith)) in
        omega (arith, length-append (out x) (flat_map out t), next_place s (length t))

    pub out_append : (t u : List X) → flat_map out (t ++ u) ≡ flat_map out t ++ flat_map out u
    out_append [] u = refl
    out_append (x ∷ t) u = rw (out_append t u, append_assoc)

    -- what was written is read
    pub in_out : (t : List X) (rest : List ℕ) → ((i : ℕ) (d : X) → i < length t → (length (out (get_or t i d)) ≡ s) × (f (out (get_or t i d)) ≡ get_or t i d))
        → parts f s (length t) (flat_map out t ++ rest) ≡ t
    unfolding parts
    in_out [] rest h = refl
    in_out (x ∷ t) rest h =
        let p = h 0 x (omega arith) in
        let a : take s (out x ++ (flat_map out t ++ rest)) ≡ out x = take_at (out x) _ s p.0 in
        let b : drop s (out x ++ (flat_map out t ++ rest)) ≡ flat_map out t ++ rest = drop_at (out x) _ s p.0 in
        let c = in_out t rest (λ i d l. h (suc i) d (omega arith)) in
        rw (append_assoc, a, b, c, p.1)

    -- what was read is written, where out is what f undoes
    module _ (whole : (ys : List ℕ) → length ys ≡ s → out (f ys) ≡ ys) where
      pub out_in : (k : ℕ) (xs : List ℕ) → s * k ≤ length xs → flat_map out (parts f s k xs) ≡ take (s * k) xs
      unfolding parts
      out_in zero xs h = rw mul-zero
      out_in (suc k) xs h =
          let e = next_place s k in
          let a : out (f (take s xs)) ≡ take s xs = whole (take s xs) (length-take-le s xs (omega arith)) in
          let b = out_in k (drop s xs) (omega (arith, length-drop s xs)) in
          let c = take_add s (s * k) xs in
          cc

      -- the parts before i, the part at i and those behind it, as they lie in memory
      pub out_take : (i k : ℕ) (xs : List ℕ) → i ≤ k → s * k ≤ length xs → flat_map out (take i (parts f s k xs)) ≡ take (s * i) xs
      out_take i k xs h l = let m = place_le s i k h in rw (take_parts i k xs h) (out_in i xs (omega arith))

      pub out_drop : (i k : ℕ) (xs : List ℕ) → i ≤ k → s * k ≤ length xs → flat_map out (drop i (parts f s k xs)) ≡ between (s * i) (s * k) xs
      out_drop i k xs h l =
          let e : s * (i + (k - i)) ≡ s * i + s * (k - i) = mul-add s i (k - i) in
          let e₂ : i + (k - i) ≡ k = omega arith in
          let e₃ : s * (i + (k - i)) ≡ s * k = ap (λ n. s * n) e₂ in
          let m : s * (k - i) ≡ s * k - s * i = omega arith in
          rw (drop_parts i k xs h) (out_in (k - i) (drop (s * i) xs) (omega (arith, length-drop (s * i) xs)) ∙ ap (λ n. take n (drop (s * i) xs)) m)

      -- a part is written over the one at i
      pub part_set : (i k : ℕ) (xs : List ℕ) (x : X) → i < k → s * k ≤ length xs
          → put_mid (s * i) s xs (out x) ≡ flat_map out (set (parts f s k xs) i x) ++ drop (s * k) xs
      part_set i k xs x h l =
          let t = parts f s k xs in
          let m : s * suc i ≤ s * k = place_le s (suc i) k (omega arith) in
          let n = next_place s i in
          let e₀ : set t i x ≡ take i t ++ (x ∷ drop (suc i) t) = set_split t i x (omega (arith, parts_length k xs)) in
          let e₁ : flat_map out (take i t ++ (x ∷ drop (suc i) t)) ≡ flat_map out (take i t) ++ (out x ++ flat_map out (drop (suc i) t)) =
          out_append (take i t) (x ∷ drop (suc i) t) in
          let e₂ = out_take i k xs (omega arith) l in
          let e₃ = out_drop (suc i) k xs (omega arith) l in
          let e₄ : between (s * suc i) (s * k) xs ++ drop (s * k) xs ≡ drop s (drop (s * i) xs) =
          between_rest (s * suc i) (s * k) xs m ∙ (ap (λ j. drop j xs) (omega arith) ∙ sym (drop-drop s (s * i) xs)) in
          rw (e₀, e₁, e₂, e₃, append_assoc, append_assoc, e₄)

      -- a gap is opened at i by moving those behind it up, and a part is written there
      pub part_inserted : (i k : ℕ) (xs : List ℕ) (x : X) → i ≤ k → s * k + s ≤ length xs → length (out x) ≡ s
          → put_mid (s * i) s (paste xs (s * i + s) (drop (s * i) xs) (s * k - s * i)) (out x)
          ≡ flat_map out (insert (parts f s k xs) i x) ++ drop (s * (k + 1)) xs
      part_inserted i k xs x h l n =
          let t = parts f s k xs in
          let m = place_le s i k h in
          let e₀ = gap_filled (s * i) (s * k) s xs (out x) m l n in
          let e₁ : flat_map out (take i t ++ (x ∷ drop i t)) ≡ flat_map out (take i t) ++ (out x ++ flat_map out (drop i t)) = out_append (take i t) (x ∷ drop i t) in
          let e₂ = out_take i k xs h (omega arith) in
          let e₃ = out_drop i k xs h (omega arith) in
          let e₄ : s * (k + 1) ≡ s * k + s = omega (arith, mul-add s k 1) in
          rw (e₀, e₁, e₂, e₃, e₄, append_assoc, append_assoc)

      -- behind the last
      pub part_pushed : (k : ℕ) (xs : List ℕ) (x : X) → s * k + s ≤ length xs
          → put_mid (s * k) s xs (out x) ≡ flat_map out (parts f s k xs ++ (x ∷ [])) ++ drop (s * (k + 1)) xs
      part_pushed k xs x l =
          let e₁ : flat_map out (parts f s k xs ++ (x ∷ [])) ≡ flat_map out (parts f s k xs) ++ (out x ++ []) = out_append (parts f s k xs) (x ∷ []) in
          let e₂ = out_in k xs (omega arith) in
          let e₃ : s * (k + 1) ≡ s * k + s = omega (arith, mul-add s k 1) in
          rw (e₁, e₂, e₃, append-nil, append_assoc, drop-drop)

      -- the part at i goes, by moving those behind it down; behind the new end all is as it was
      pub part_removed : (i k : ℕ) (xs : List ℕ) → i < k → s * k ≤ length xs
          → paste xs (s * i) (drop (s * i + s) xs) (s * k - (s * i + s)) ≡ flat_map out (remove (parts f s k xs) i) ++ drop (s * (k - 1)) xs
      part_removed i k xs h l =
          let t = parts f s k xs in
          let n = next_place s i in
          let m : s * suc i ≤ s * k = place_le s (suc i) k (omega arith) in
          let e₀ = closed_up (s * i) (s * k) s xs (omega arith) l in
          let e₁ : flat_map out (remove t i) ≡ flat_map out (take i t) ++ flat_map out (drop (suc i) t) = out_append (take i t) (drop (suc i) t) in
          let e₂ = out_take i k xs (omega arith) l in
          let e₃ = out_drop (suc i) k xs (omega arith) l in
          let e₄ : s * suc (k - 1) ≡ s * k = ap (λ j. s * j) (omega arith) in
          let e₅ : s * (k - 1) ≡ s * k - s = omega (arith, next_place s (k - 1)) in
          let e₆ : s * suc i ≡ s * i + s = omega arith in
          rw (e₀, e₁, e₂, e₃, e₅, e₆, append_assoc)
