-- What a row holds once a table is written into it. Assumes nothing.
use Rattle.std.proofs.Common.{◌≡◌, ℕ, ◌+◌, ◌-◌, ◌≤◌, List, ◌∷◌, ◌++◌, length, take, drop, sym, ap, ◌∙◌, arith, length-append, length-drop}
use Rattle.std.proofs.lemmas.List.{append_assoc, get_or_at, take_at, drop_at, drop-drop, length-take-le}
use Rattle.hierarchy.specs.Dimensions.{Row}
use Rattle.hierarchy.proofs.Parts.{in_out, length_out, place_le}
use Rattle.totals.specs.Tables.{Table}
use Rattle.totals.specs.Promises.{InOrder, NoneEmpty}
use Rattle.summary.specs.Memory.{stride, start, cell_in, cell_out, cells_out, count_in, levels_in, table_in, row_out, holding, Wide, Sound}
use Rattle.summary.proofs.Rows.{cell_in_out, cell_long}

-- levels, a table, and anything behind it
module _ (w : ℕ) (ls : Row) (long : length ls ≡ w) (t : Table) (rest : List ℕ) where
  pub levels_row : levels_in w (row_out ls t rest) ≡ ls
  levels_row = take_at ls (length t ∷ (cells_out t ++ rest)) w long

  pub count_row : count_in w (row_out ls t rest) ≡ length t
  count_row = get_or_at ls (length t) (cells_out t ++ rest) 0 w long

  body-row : drop (w + 1) (row_out ls t rest) ≡ cells_out t ++ rest
  body-row = sym (drop-drop 1 w (row_out ls t rest)) ∙ ap (drop 1) (drop_at ls (length t ∷ (cells_out t ++ rest)) w long)

  module _ (wide : Wide w t) where
    pub table_row : table_in w (row_out ls t rest) ≡ t
    table_row =
        rw (count_row, body-row)
        (in_out (cell_in w) (stride w) cell_out t rest (λ i d l. (cell_long w _ (wide i d l), cell_in_out w _ (wide i d l))))

    pub length_row : length (row_out ls t rest) ≡ start w (length t) + length rest
    length_row =
        let a = length-append ls (length t ∷ (cells_out t ++ rest)) in
        let b = length-append (cells_out t) rest in
        let c = length_out (cell_in w) (stride w) cell_out t (λ i d l. cell_long w _ (wide i d l)) in
        omega arith

    pub sound_row : InOrder t → NoneEmpty t → Sound w (row_out ls t rest)
    sound_row o f =
        let n = count_row in
        let l = length_row in
        let e = table_row in
        record { whole = rw (n, l) (omega arith); ordered = rw e o; filled = rw e f }

    -- behind the groups there is the rest
    pub drop_row : (n : ℕ) → start w (length t) ≤ n → drop n (row_out ls t rest) ≡ drop (n - start w (length t)) rest
    drop_row n l =
        let k = start w (length t) in
        let front = ls ++ (length t ∷ cells_out t) in
        let k-long : length front ≡ k =
        omega (
          arith,
          length-append ls (length t ∷ cells_out t),
          length_out (cell_in w) (stride w) cell_out t (λ i d m. cell_long w _ (wide i d m)),
        ) in
        let e : row_out ls t rest ≡ front ++ rest = sym (append_assoc ls (length t ∷ cells_out t) rest) in
        let m : n ≡ k + (n - k) = omega arith in
        let a : drop n (front ++ rest) ≡ drop (n - k) (drop k (front ++ rest)) =
        ap (λ j. drop j (front ++ rest)) m ∙ sym (drop-drop (n - k) k (front ++ rest)) in
        rw (e, a, drop_at front rest k k-long)

-- a row in which another table was written
module _ (w : ℕ) (t : Table) (xs : List ℕ) (wide : Wide w t) (room : start w (length t) ≤ length xs) where
  levels_long : length (take w xs) ≡ w
  levels_long = length-take-le w xs (omega arith)

  pub levels_holding : levels_in w (holding w t xs) ≡ levels_in w xs
  levels_holding = levels_row w (take w xs) levels_long t (drop (start w (length t)) xs)

  pub count_holding : count_in w (holding w t xs) ≡ length t
  count_holding = count_row w (take w xs) levels_long t (drop (start w (length t)) xs)

  pub table_holding : table_in w (holding w t xs) ≡ t
  table_holding = table_row w (take w xs) levels_long t (drop (start w (length t)) xs) wide

  pub length_holding : length (holding w t xs) ≡ length xs
  length_holding =
      let a = length_row w (take w xs) levels_long t (drop (start w (length t)) xs) wide in
      let b = length-drop (start w (length t)) xs in
      omega arith

  pub sound_holding : InOrder t → NoneEmpty t → Sound w (holding w t xs)
  sound_holding = sound_row w (take w xs) levels_long t (drop (start w (length t)) xs) wide

  -- behind its groups all is as it was; so a longer one may be written over it
  pub holding_again : (u : Table) → length t ≤ length u → holding w u (holding w t xs) ≡ holding w u xs
  holding_again u l =
      let m = place_le (stride w) (length t) (length u) l in
      let k = start w (length t) in
      let n = start w (length u) in
      let a = levels_holding in
      let j : k + (n - k) ≡ n = omega arith in
      let b : drop n (holding w t xs) ≡ drop n xs =
      drop_row w (take w xs) levels_long t (drop k xs) wide n (omega arith) ∙ (drop-drop (n - k) k xs ∙ ap (λ i. drop i xs) j) in
      cc
