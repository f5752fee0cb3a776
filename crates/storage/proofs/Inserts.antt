-- When a fact may be inserted. Assumes nothing.
use Rattle.std.proofs.Common.{◌≡◌, ℕ, ◌-◌, ◌*◌, ◌^◌, ◌<◌, ◌≤◌, Bool, true, false, cond, eqb, leb, List, ◌∷◌, map, length, get_or, take, Some, None, sym, refl, ap, ◌∙◌, subst, mul-le-mul_left, arith}
use Rattle.std.proofs.lemmas.List.{length-reverse}
use Rattle.std.proofs.ByRecursion.{All-get_or}
use Rattle.std.proofs.lemmas.Bool.{le-leb, lt-leb, eqb-true, eqb-false}
use Rattle.hierarchy.specs.Dimensions.{Dims, Row}
use Rattle.hierarchy.specs.Levels.{finest}
use Rattle.hierarchy.specs.Facts.{Entry}
use Rattle.hierarchy.specs.Reading.{fact_refusal, entry_in}
use Rattle.hierarchy.proofs.Parts.{place_le}
use Rattle.totals.specs.Tables.{Table, table}
use Rattle.totals.specs.Counts.{total}
use Rattle.summary.specs.Memory.{stride}
use Rattle.summary.specs.Memory as summary
use Rattle.totals.proofs.Theory.{table_more}
use Rattle.model.specs.House.{Kept, insert, first_full, refusal, with_fact}
use Rattle.storage.specs.Memory.{sides, wide, limits, part_size, house_in, Memory, Does}
use Rattle.tables.specs.Memory.{part, kept_in, tables_in, PutReady, WithFact, Each}
use Rattle.storage.specs.declared.layout.Layout.{Layout}
use Rattle.tables.proofs.Places.{tables_length, table_at, tables_mapped, part_long, within}
use Rattle.storage.proofs.Rebuilt.{does_done}
use Rattle.model.proofs.Sound.{full_none}
use Rattle.model.proofs.Steps.{insert_done}
use Rattle.ledger.specs.Book.{facts_in, in_order, Holds}
use Rattle.ledger.specs.Book.{count_in as count_in_book}
use Rattle.ledger.proofs.Rows.{order_length}
use Rattle.hierarchy.specs.Dimensions.{four}
use Rattle.hierarchy.specs.Views.{entry_of}
use Rattle.hierarchy.specs.declared.fact.Fact.{Fact}
use Rattle.hierarchy.proofs.Fours.{whole_four}
use Rattle.hierarchy.proofs.Theory.{fact_read}
use Rattle.model.proofs.Laws.{insert_refusal, cells_bounded}
use Rattle.replies.specs.declared.Refusal.TheVariants.{LedgerFull, TableFull}
use Rattle.replies.specs.declared.Reply.TheVariants.{Done}

entry_is : (p q : Row) (a b : ℕ) → p ≡ q → a ≡ b → ◌≡◌ {A = Entry} (record { place = p; amount = a }) (record { place = q; amount = b })
entry_is p q a b h k = rw (h, k)

-- a fact that was read
pub read_entry : (ss : Dims) (xs : Row) (f : Fact) → length ss ≤ 4 → fact_refusal ss xs ≡ None → f.place ≡ four (take (length ss) xs) → f.amount ≡ get_or xs (length ss) 0
    → (entry_of (length ss) f ≡ entry_in ss xs) × (length (entry_of (length ss) f).place ≡ length ss)
read_entry ss xs f few none place amount =
    let long = (fact_read ss xs none).0 in
    let whole : take (length ss) f.place ≡ take (length ss) xs = ap (take (length ss)) place ∙ whole_four (length ss) (take (length ss) xs) few long in
    (entry_is (take (length ss) f.place) (take (length ss) xs) f.amount (get_or xs (length ss) 0) whole amount, ap length whole ∙ long)

module _ (l : Layout) (book tables : List ℕ) (m : Memory l book tables) where
  -- the finest table is in the first part
  pub some_kept : 0 < get_or tables 0 0
  some_kept = rw (tables_length (wide l) (part_size l) tables) at m.valid.sound.some

  first_part : Kept
  first_part = kept_in (wide l) (part (part_size l) 0 tables)

  pub first_sound : summary.Sound (wide l) (part (part_size l) 0 tables)
  first_sound = m.sound 0 some_kept

  pub first_with : (e : Entry) → (with_fact (sides l) e (kept_in (wide l) (part (part_size l) 0 tables))).cells ≡ table (sides l) (finest (sides l)) (e ∷ facts_in (wide l) book)
  unfolding first_part
  first_with e =
      let is = table_at (wide l) (part_size l) 0 tables first_part some_kept in
      let levels = m.valid.sound.first first_part in
      let right = m.valid.sound.right 0 first_part m.valid.sound.some in
      let a : first_part.levels ≡ finest (sides l) = ap (λ (k : Kept). k.levels) (sym is) ∙ levels in
      let b : first_part.cells ≡ table (sides l) (finest (sides l)) (facts_in (wide l) book) =
      ap (λ (k : Kept). k.cells) (sym is) ∙ right ∙ ap (λ (ls : Row). table (sides l) ls (facts_in (wide l) book)) levels in
      rw (a, b) (sym (table_more (sides l) (finest (sides l)) e (facts_in (wide l) book)))

  pub facts_length : length (facts_in (wide l) book) ≡ count_in_book book
  facts_length = length-reverse (in_order (wide l) book) ∙ order_length (wide l) book

  module _ (xs : Row) (none : fact_refusal (sides l) xs ≡ None) where
    pub full_refused : true ≡ eqb (count_in_book book) l.book.room → refusal (sides l) (limits l) (house_in l book tables) (insert xs) ≡ Some (LedgerFull l.book.room)
    full_refused full =
        let e = eqb-true (count_in_book book) l.book.room (sym full) in
        rw (none, le-leb l.book.room (length (facts_in (wide l) book)) (omega (arith, facts_length)))

    free : false ≡ eqb (count_in_book book) l.book.room → leb l.book.room (length (facts_in (wide l) book)) ≡ false
    free room =
        let n = eqb-false (count_in_book book) l.book.room (sym room) in
        lt-leb l.book.room (length (facts_in (wide l) book)) (omega (arith, facts_length, m.valid.few))

    pub room_decides : (v : Bool) → false ≡ eqb (count_in_book book) l.book.room
        → v ≡ leb (length (with_fact (sides l) (entry_in (sides l) xs) (kept_in (wide l) (part (part_size l) 0 tables))).cells) l.tables.groups
        → refusal (sides l) (limits l) (house_in l book tables) (insert xs) ≡ cond v None (Some (TableFull 0))
    room_decides v room takes =
        let t = takes ∙ ap (λ (t : Table). leb (length t) l.tables.groups) (first_with (entry_in (sides l) xs)) in
        insert_refusal (sides l) (limits l) (house_in l book tables) xs m.valid.sound ∙ rw (none, free room, ← t)

    -- as the code has it, of the fact that was read and the part that was lent
    pub room_by : (v : Bool) (e : Entry) (p : List ℕ) → e ≡ entry_in (sides l) xs → p ≡ part (part_size l) 0 tables → false ≡ eqb (count_in_book book) l.book.room
        → v ≡ leb (length (with_fact (sides l) e (kept_in (wide l) p)).cells) l.tables.groups
        → refusal (sides l) (limits l) (house_in l book tables) (insert xs) ≡ cond v None (Some (TableFull 0))
    room_by v e p a b room takes =
        room_decides v room (takes ∙ ap (λ (d : Entry). leb (length (with_fact (sides l) d (kept_in (wide l) p)).cells) l.tables.groups) a
        ∙ ap (λ (q : List ℕ). leb (length (with_fact (sides l) (entry_in (sides l) xs) (kept_in (wide l) q)).cells) l.tables.groups) b)

-- what is known where a fact is inserted
module _ (l : Layout) (book tables : List ℕ) (m : Memory l book tables) (xs : Row) (f : Fact)
    (accepted : refusal (sides l) (limits l) (house_in l book tables) (insert xs) ≡ None) (is : entry_of (wide l) f ≡ entry_in (sides l) xs) where
  known : (fact_refusal (sides l) xs ≡ None) × (length (facts_in (wide l) book) < l.book.room)
      × (first_full (sides l) (limits l) (entry_in (sides l) xs) 0 (tables_in (wide l) (part_size l) tables) ≡ None)
  known = insert_done (sides l) (limits l) (house_in l book tables) xs accepted

  -- there is room in the book
  pub book_free : count_in_book book < l.book.room
  book_free = rw (facts_length l book tables m) at known.1

  pub few_kept : get_or tables 0 0 ≤ 16
  few_kept = rw (tables_length (wide l) (part_size l) tables) at m.valid.tables

  -- each kept table can take the fact
  pub all_ready : (i : ℕ) → i < get_or tables 0 0 → PutReady l.tables (entry_of (wide l) f) (part (part_size l) i tables)
  all_ready i k =
      let w = wide l in
      let s = part_size l in
      let p = part s i tables in
      let d = kept_in w p in
      let n = tables_length w s tables in
      let at = table_at w s i tables d k in
      let room = All-get_or (λ t. length (with_fact (sides l) (entry_in (sides l) xs) t).cells ≤ l.tables.groups) (tables_in w s tables) i d (omega arith)
      (full_none (sides l) (limits l) (entry_in (sides l) xs) 0 (tables_in w s tables) known.2) in
      let few : length (with_fact (sides l) (entry_of w f) d).cells ≤ l.tables.groups =
      subst (λ (e : Entry). length (with_fact (sides l) e d).cells ≤ l.tables.groups) (sym is)
      (subst (λ (t : Kept). length (with_fact (sides l) (entry_in (sides l) xs) t).cells ≤ l.tables.groups) at room) in
      let b = cells_bounded (sides l) (house_in l book tables) m.valid.sound m.valid.whole i d (omega arith) in
      let c : ((total d.cells).count ≡ length (facts_in w book)) × ((total d.cells).sum ≤ (2 ^ 32 - 1) * length (facts_in w book)) =
      subst (λ (t : Kept). ((total t.cells).count ≡ length (facts_in w book)) × ((total t.cells).sum ≤ (2 ^ 32 - 1) * length (facts_in w book))) at (b.counts, b.sums) in
      let less : length (facts_in w book) ≤ 2 ^ 32 = omega (arith, known.1, l.book.bounded) in
      let most = mul-le-mul_left (2 ^ 32 - 1) less in
      let amount : f.amount < 2 ^ 32 = subst (λ (e : Entry). e.amount < 2 ^ 32) (sym is) (fact_read (sides l) xs known.0).1 in
      record {
        sound = m.sound i k;
        long = subst (λ (e : Entry). length e.place ≡ wide l) (sym is) (fact_read (sides l) xs known.0).0;
        room =
            let i16 : i < 16 = omega (arith, few_kept) in
            rw (part_long s i tables (omega (arith, m.long, within s i i16))) (omega (arith, place_le (stride w) (length (with_fact (sides l) (entry_of w f) d).cells) l.tables.groups few));
        fits = (omega (arith, c.0, known.1, l.book.bounded), omega (arith, c.1, most, amount));
      }

  -- and the warehouse after it
  pub inserted_done : (v : ℕ) (book₁ tables₁ : List ℕ) → v ≡ wide l → facts_in v book₁ ≡ entry_of v f ∷ facts_in v book → Holds v l.book.room book₁
      → length tables₁ ≡ length tables → Each (part_size l) (WithFact l.tables (entry_of (wide l) f)) (get_or tables 0 0) tables tables₁
      → Does l (insert xs) Done book tables book₁ tables₁
  inserted_done v book₁ tables₁ q facts holds long each =
      let f₁ = subst (λ (n : ℕ). facts_in n book₁ ≡ entry_of n f ∷ facts_in n book) q facts in
      let h₁ = subst (λ (n : ℕ). Holds n l.book.room book₁) q holds in
      let kept = tables_mapped (wide l) (part_size l) (WithFact l.tables (entry_of (wide l) f)) (with_fact (sides l) (entry_of (wide l) f)) tables tables₁ (λ us vs r. r.table) each in
      does_done l (insert xs) book tables book₁ tables₁ m accepted refl h₁ (f₁ ∙ ap (λ (e : Entry). e ∷ facts_in (wide l) book) is) (long ∙ m.long)
      (record {
        are = kept ∙ ap (λ (e : Entry). map (with_fact (sides l) e) (tables_in (wide l) (part_size l) tables)) is;
        sound = λ i k. (each.made i (rw each.head at k)).sound;
      })
