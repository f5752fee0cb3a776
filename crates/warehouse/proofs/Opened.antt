-- Memory of a warehouse that was just opened: all zeros, but for one kept table. Assumes nothing.
use Rattle.std.proofs.Common.{◌≡◌, ℕ, zero, suc, ◌+◌, ◌-◌, ◌*◌, ◌<◌, ◌≤◌, List, [], ◌∷◌, reverse, length, get_or, take, drop, set, replicate, sym, refl, ap, ◌∙◌, subst, mul-zero, arith}
use Rattle.std.proofs.lemmas.List.{length-replicate, length-set, take-replicate, drop-replicate, get_or-replicate, get_or-set_same, drop-set-lt}
use Rattle.hierarchy.specs.Dimensions.{Dims}
use Rattle.hierarchy.specs.Levels.{finest}
use Rattle.hierarchy.specs.Parts.{parts}
use Rattle.ledger.specs.Book.{facts_in, entry_in}
use Rattle.ledger.specs.Book as ledger
use Rattle.summary.specs.Memory.{start, stride, count_in, table_in, cell_in}
use Rattle.summary.specs.Memory as summary
use Rattle.model.specs.House.{Kept, House, empty}
use Rattle.storage.specs.Memory.{sides, wide, limits, book_size, part_size, house_in, Memory}
use Rattle.tables.specs.Memory.{part, kept_in, tables_in}
use Rattle.model.specs.Promises.{Valid}
use Rattle.storage.specs.declared.layout.Layout.{Layout}
use Rattle.tables.proofs.Places.{tables_are}
use Rattle.model.proofs.Sound.{empty_holds}

zeros_finest : (ss : Dims) → replicate (length ss) 0 ≡ finest ss
unfolding finest
zeros_finest [] = refl
zeros_finest (fs ∷ ss) = ap (λ ls. 0 ∷ ls) (zeros_finest ss)

-- a row of zeros is an empty table at the finest levels
module _ (w s : ℕ) (room : w + 1 ≤ s) where
  no-count : count_in w (replicate s 0) ≡ 0
  no-count = get_or-replicate {A = ℕ} s w 0 0 (omega arith)

  no_cells : table_in w (replicate s 0) ≡ []
  unfolding parts
  no_cells = ap (λ n. parts (cell_in w) (stride w) n (drop (w + 1) (replicate s 0))) no-count

  pub zero_table : summary.Sound w (replicate s 0)
  zero_table =
      record {
        whole = rw (no-count, length-replicate {A = ℕ} s 0) (omega arith);
        ordered = rw no_cells (λ i j g a b. absurd (omega arith));
        filled = rw no_cells (λ i g a. absurd (omega arith));
      }

  pub zero_kept : (ss : Dims) → length ss ≡ w → kept_in w (replicate s 0) ≡ record { levels = finest ss; cells = [] }
  zero_kept ss e =
      let levels : take w (replicate s 0) ≡ finest ss = take-replicate w s 0 (omega arith) ∙ (ap (λ n. replicate n 0) (sym e) ∙ zeros_finest ss) in
      rw (levels, no_cells)

module _ (l : Layout) (book tables : List ℕ) (booked : book ≡ replicate (book_size l) 0) (tabled : tables ≡ set (replicate (1 + part_size l * 16) 0) 0 1) where
  one_kept : get_or tables 0 0 ≡ 1
  one_kept = rw tabled (get_or-set_same (replicate (1 + part_size l * 16) 0) 0 1 0 (rw (length-replicate {A = ℕ} (1 + part_size l * 16) 0) (omega arith)))

  first_part : part (part_size l) 0 tables ≡ replicate (part_size l) 0
  first_part =
      let n : 1 + part_size l * 0 ≡ 1 = omega (arith, mul-zero (part_size l)) in
      let m : (1 + part_size l * 16) - 1 ≡ part_size l * 16 = omega arith in
      rw (n, tabled, drop-set-lt {A = ℕ} 1 (replicate (1 + part_size l * 16) 0) 0 1 (omega arith), drop-replicate {X = ℕ} 1 (1 + part_size l * 16) 0, m)
      (take-replicate {X = ℕ} (part_size l) (part_size l * 16) 0 (omega arith))

  no-facts : facts_in (wide l) book ≡ []
  unfolding parts
  no-facts =
      let none : get_or book 0 0 ≡ 0 = rw booked (getD-zero (book_size l)) in
      ap (λ n. reverse (parts (entry_in (wide l)) (ledger.stride (wide l)) n (drop 1 book))) none
    where
      getD-zero : (n : ℕ) → get_or {A = ℕ} (replicate n 0) 0 0 ≡ 0
      getD-zero zero = refl
      getD-zero (suc n) = refl

  finest-kept : tables_in (wide l) (part_size l) tables ≡ record { levels = finest (sides l); cells = [] } ∷ []
  finest-kept = tables_are (wide l) (part_size l) tables (record { levels = finest (sides l); cells = [] } ∷ []) one_kept first
    where
      first : (i : ℕ) (d : Kept) → i < 1 → kept_in (wide l) (part (part_size l) i tables) ≡ get_or (record { levels = finest (sides l); cells = [] } ∷ []) i d
      first zero d h = ap (kept_in (wide l)) first_part ∙ zero_kept (wide l) (part_size l) (omega arith) (sides l) refl
      first (suc i) d h = absurd (omega arith)

  pub opened_house : house_in l book tables ≡ empty (sides l)
  opened_house = rw (no-facts, finest-kept)

  pub opened_memory : Memory l book tables
  opened_memory =
      record {
        booked =
            record {
              fits = rw booked (few (book_size l));
              long = rw (booked, length-replicate {A = ℕ} (book_size l) 0) (rw l.booked (omega arith));
            };
        long = ap length tabled ∙ (length-set (replicate (1 + part_size l * 16) 0) 0 1 ∙ length-replicate {A = ℕ} (1 + part_size l * 16) 0);
        sound = λ i k.
            let z : i ≡ 0 = omega (arith, one_kept) in
            rw (z, first_part) (zero_table (wide l) (part_size l) (omega arith));
        valid = subst (λ (h : House). Valid (sides l) (limits l) h) (sym opened_house) (empty_holds (sides l) (limits l));
      }
    where
      few : (n : ℕ) → get_or (replicate n 0) 0 0 ≤ l.book.room
      few zero = omega arith
      few (suc n) = omega arith
