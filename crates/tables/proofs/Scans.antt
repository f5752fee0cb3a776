-- The kept tables one by one: where one is kept, and which serves for a question. Assumes nothing.
use Rattle.std.proofs.Common.{◌≡◌, ℕ, zero, suc, ◌+◌, ◌<◌, ◌≤◌, true, false, cond, eqb, leb, List, [], ◌∷◌, length, get_or, take, drop, Some, None, Option, sym, refl, ap, ◌∙◌, inl, inr, arith}
use Rattle.std.specs.List.{fold, range_with_len}
use Rattle.std.specs.Option.{MatchOption}
use Rattle.std.proofs.lemmas.List.{drop_more, drop_all, length-take-le}
use Rattle.std.proofs.lemmas.Bool.{cases_Bool, le-leb, lt-leb, eq-eqb, ne_eqb}
use Rattle.hierarchy.specs.Dimensions.{Dims, Row, four}
use Rattle.hierarchy.specs.Levels.{same, no_coarser, finest}
use Rattle.hierarchy.specs.Reading.{levels_refusal, levels_in}
use Rattle.hierarchy.specs.Views.{levels_of}
use Rattle.hierarchy.specs.declared.levels.Levels.{Levels}
use Rattle.hierarchy.proofs.Fours.{whole_four}
use Rattle.hierarchy.proofs.Laws.{levels_length}
use Rattle.hierarchy.proofs.Rises.{finest_zeros}
use Rattle.hierarchy.proofs.Widths.{dims_few}
use Rattle.model.specs.House.{Kept, kept_at, better, source}
use Rattle.tables.specs.Memory.{sides, wide, part, kept_in, tables_in}
use Rattle.tables.specs.declared.layout.TableLayout.{TableLayout}
use Rattle.model.proofs.Laws.{kept_at_end, kept_at_here, kept_at_on}
use Rattle.tables.proofs.Places.{tables_length, table_at}
use Rattle.hierarchy.proofs.Theory.{levels_read}
use Rattle.model.proofs.Source.{Takes, better_none, better_take, better_pass, source_more}

-- levels read from a row are its first numbers
pub levels_are : (l : TableLayout) (r : Levels) (xs : Row) → r.at ≡ four (take (wide l) xs) → wide l ≤ length xs → levels_of (wide l) r ≡ take (wide l) xs
levels_are l r xs e h =
    ap (take (wide l)) e ∙ whole_four (wide l) (take (wide l) xs) (dims_few l.dims) (length-take-le (wide l) xs h)

pub read_are : (l : TableLayout) (r : Levels) (xs : Row) → levels_refusal (sides l) xs ≡ None → r.at ≡ four (levels_in (sides l) xs)
    → levels_of (wide l) r ≡ levels_in (sides l) xs
read_are l r xs h e =
    ap (take (wide l)) e
    ∙ whole_four (wide l) (levels_in (sides l) xs) (dims_few l.dims) (levels_length (sides l) (levels_in (sides l) xs) (levels_read (sides l) xs h))

-- only the finest levels are no coarser than the finest
at_most_0 : (n : ℕ) → leb n 0 ≡ eqb n 0
at_most_0 zero = le-leb 0 0 (omega arith) ∙ sym (eq-eqb 0 0 refl)
at_most_0 (suc n) = lt-leb (suc n) 0 (omega arith) ∙ sym (ne_eqb (suc n) 0 (λ e. absurd (omega arith)))

only_finest : (ss : Dims) (ls : Row) → length ls ≡ length ss → no_coarser ss ls (finest ss) ≡ same ls (finest ss)
unfolding no_coarser same finest
only_finest [] [] h = refl
only_finest [] (m ∷ ls) h = absurd (omega arith)
only_finest (fs ∷ ss) [] h = absurd (omega arith)
only_finest (fs ∷ ss) (m ∷ ls) h = rw (at_most_0 m, only_finest ss ls (omega arith))

pub finest_test : (l : TableLayout) (r none : Levels) → length r.at ≡ 4 → none.at ≡ 0 ∷ 0 ∷ 0 ∷ 0 ∷ []
    → no_coarser (sides l) (levels_of (wide l) r) (levels_of (wide l) none) ≡ same (levels_of (wide l) r) (finest (sides l))
finest_test l r none long z =
    let few = dims_few l.dims in
    let b : levels_of (wide l) none ≡ finest (sides l) = ap (take (wide l)) z ∙ finest_zeros (sides l) few in
    rw b (only_finest (sides l) (levels_of (wide l) r) (length-take-le (wide l) r.at (omega arith)))

module _ (w s : ℕ) (xs : List ℕ) where
  pub tables_more : (i : ℕ) → i < get_or xs 0 0 → drop i (tables_in w s xs) ≡ kept_in w (part s i xs) ∷ drop (i + 1) (tables_in w s xs)
  tables_more i h =
      let k = kept_in w (part s i xs) in
      drop_more (tables_in w s xs) i k (omega (arith, tables_length w s xs))
      ∙ ap (λ (x : Kept). x ∷ drop (i + 1) (tables_in w s xs)) (table_at w s i xs k h)

  pub tables_end : (i : ℕ) → get_or xs 0 0 ≤ i → drop i (tables_in w s xs) ≡ []
  tables_end i h = drop_all i (tables_in w s xs) (omega (arith, tables_length w s xs))

  -- where a table is kept
  place_here : (ls : Row) (i : ℕ) → i < get_or xs 0 0 → same ls (take w (part s i xs)) ≡ true → kept_at ls i (drop i (tables_in w s xs)) ≡ Some i
  place_here ls i h e = ap (kept_at ls i) (tables_more i h) ∙ kept_at_here ls i (kept_in w (part s i xs)) _ e

  place_on : (ls : Row) (i : ℕ) → i < get_or xs 0 0 → same ls (take w (part s i xs)) ≡ false
      → kept_at ls i (drop i (tables_in w s xs)) ≡ kept_at ls (i + 1) (drop (i + 1) (tables_in w s xs))
  place_on ls i h e =
      let next : suc i ≡ i + 1 = omega arith in
      ap (kept_at ls i) (tables_more i h)
      ∙ (kept_at_on ls i (kept_in w (part s i xs)) _ e ∙ ap (λ (n : ℕ). kept_at ls n (drop (i + 1) (tables_in w s xs))) next)

  place_end : (ls : Row) (i : ℕ) → get_or xs 0 0 ≤ i → kept_at ls i (drop i (tables_in w s xs)) ≡ None
  place_end ls i h = ap (kept_at ls i) (tables_end i h) ∙ kept_at_end ls i

  place_past : (ls : Row) (i : ℕ) → i ≤ get_or xs 0 0 → ((k : ℕ) → k < i → same ls (take w (part s k xs)) ≡ false)
      → kept_at ls 0 (tables_in w s xs) ≡ kept_at ls i (drop i (tables_in w s xs))
  place_past ls zero h none = refl
  place_past ls (suc i) h none =
      let next : i + 1 ≡ suc i = omega arith in
      place_past ls i (omega arith) (λ k l. none k (omega arith))
      ∙ (place_on ls i (omega arith) (none i (omega arith)) ∙ ap (λ (n : ℕ). kept_at ls n (drop n (tables_in w s xs))) next)

  -- the first that is at the levels, or none
  pub place_found : (ls : Row) (n : ℕ) (r : Option ℕ) → n ≡ get_or xs 0 0
      → MatchOption r ((k : ℕ) → 0 ≤ k → k < n → same ls (take w (part s k xs)) ≡ false)
      (λ i. (0 ≤ i) × (i < n) × (same ls (take w (part s i xs)) ≡ true) × ((k : ℕ) → 0 ≤ k → k < i → same ls (take w (part s k xs)) ≡ false))
      → r ≡ kept_at ls 0 (tables_in w s xs)
  place_found ls n None e none = sym (place_past ls n (omega arith) (λ k l. none k (omega arith) l) ∙ place_end ls n (omega arith))
  place_found ls n (Some i) e first =
      sym (place_past ls i (omega (arith, first.1)) (λ k l. first.3 k (omega arith) l) ∙ place_here ls i (omega (arith, first.1)) first.2)

  -- which serves
  module _ (ss : Dims) (ls : Row) where
    -- of the tables at `best` and at i, the one that serves better
    abbrev pub better_of : ℕ → ℕ → ℕ
    better_of best i = cond (Takes ss ls (kept_in w (part s best xs)) (kept_in w (part s i xs))) i best

    pub source_start : 0 < get_or xs 0 0 → better ss ls (kept_in w (part s 0 xs)) (drop 1 (tables_in w s xs)) ≡ source ss ls (tables_in w s xs)
    source_start h = sym (ap (source ss ls) (tables_more 0 h) ∙ source_more ss ls (kept_in w (part s 0 xs)) (drop 1 (tables_in w s xs)))

    -- the better, of the table at `best` and the m from i on
    pub source_folded : (m i best : ℕ) → i + m ≡ get_or xs 0 0 → best < get_or xs 0 0
        → (fold better_of best (range_with_len i m) < get_or xs 0 0)
        × (kept_in w (part s (fold better_of best (range_with_len i m)) xs) ≡ better ss ls (kept_in w (part s best xs)) (drop i (tables_in w s xs)))
    source_folded zero i best h l =
        (l, sym (ap (better ss ls (kept_in w (part s best xs))) (tables_end i (omega arith)) ∙ better_none ss ls (kept_in w (part s best xs))))
    source_folded (suc m) i best h l =
        let k = kept_in w (part s best xs) in
        let x = kept_in w (part s i xs) in
        let more = ap (better ss ls k) (tables_more i (omega arith)) in
        elim (cases_Bool (Takes ss ls k x)) [
          | inl e ↦
              let r = source_folded m (i + 1) i (omega arith) (omega arith) in
              rw (fold, e) (r.0, r.1 ∙ sym (more ∙ better_take ss ls k x _ e))
          | inr e ↦
              let r = source_folded m (i + 1) best (omega arith) l in
              rw (fold, e) (r.0, r.1 ∙ sym (more ∙ better_pass ss ls k x _ e))
        ]
