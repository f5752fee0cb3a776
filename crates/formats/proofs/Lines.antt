-- Text that grows by one piece a turn. Assumes nothing.
use Rattle.std.proofs.Common.{◌≡◌, ℕ, ◌+◌, ◌<◌, ◌≤◌, List, ◌++◌, length, get_or, take, sym, ap, ◌∙◌}
use Rattle.std.specs.List.{flat_map}
use Rattle.std.proofs.lemmas.List.{flat_map_more, take_more, take_all}

module _ {X : Type 0} (f : X → List ℕ) (start : List ℕ) (xs : List X) where
  pub piece_more : (i : ℕ) (d : X) (before after : List ℕ) → i < length xs → before ≡ start ++ flat_map f (take i xs) → after ≡ before ++ f (get_or xs i d)
      → after ≡ start ++ flat_map f (take (i + 1) xs)
  piece_more i d before after h b a =
      a ∙ (ap (λ s. s ++ f (get_or xs i d)) b
      ∙ (flat_map_more f start (take i xs) (get_or xs i d) ∙ ap (λ ys. start ++ flat_map f ys) (sym (take_more xs i d h))))

  pub piece_all : (i : ℕ) (before : List ℕ) → length xs ≤ i → before ≡ start ++ flat_map f (take i xs) → before ≡ start ++ flat_map f xs
  piece_all i before h b = b ∙ ap (λ ys. start ++ flat_map f ys) (take_all i xs h)
