-- When a fact may be deleted, and the warehouse after it. Assumes nothing.
use Rattle.std.proofs.Common.{◌≡◌, ℕ, ◌<◌, ◌≤◌, Bool, true, false, ltb, List, [], ◌∷◌, map, length, get_or, take, is_ok, Some, None, Ok, Err, Result, sym, refl, ap, ◌∙◌, inl, inr, arith}
use Rattle.std.proofs.lemmas.Bool.{cases_lt, true≢false, ltb-true, ltb-false, eq-eqb, ne_eqb, or_left, or_right, both_ways}
use Rattle.hierarchy.specs.Dimensions.{Dims, Row}
use Rattle.hierarchy.specs.Facts.{Entry, copies, without}
use Rattle.hierarchy.specs.Places.{place_at}
use Rattle.hierarchy.specs.Reading.{fact_refusal, entry_in}
use Rattle.hierarchy.specs.Views.{entry_of}
use Rattle.hierarchy.specs.declared.fact.Fact.{Fact}
use Rattle.replies.specs.declared.Refusal.TheVariants.{NoSuchFact}
use Rattle.replies.specs.declared.Reply.TheVariants.{Done}
use Rattle.hierarchy.proofs.Rows.{is_same}
use Rattle.ledger.specs.Book.{facts_in, Holds}
use Rattle.totals.specs.Tables.{Measure, Table, one, put, table}
use Rattle.summary.specs.Memory.{table_in, held, Found}
use Rattle.totals.proofs.Put.{put_none, put_same, put_front, put_on}
use Rattle.totals.proofs.Order.{order}
use Rattle.summary.proofs.Spots.{held_would}
use Rattle.totals.proofs.Theory.{pulled, table_more}
use Rattle.model.specs.House.{Kept, delete, refusal, without_fact}
use Rattle.storage.specs.Memory.{sides, wide, limits, part_size, house_in, Memory, Does}
use Rattle.tables.specs.Memory.{part, kept_in, tables_in, WithoutFact, Each}
use Rattle.storage.specs.declared.layout.Layout.{Layout}
use Rattle.storage.proofs.Inserts.{some_kept}
use Rattle.tables.proofs.Places.{tables_length, table_at, tables_mapped}
use Rattle.storage.proofs.Rebuilt.{does_done}

-- a group stands where facts came to
pub held_put : (p : Row) (m : Measure) (t : Table) → held p (put p m t) ≡ true
unfolding held
held_put p m [] = rw (put_none p m) (or_left _ _ (is_same p p refl))
held_put p m (g ∷ gs) =
    elim (order p g.place) [
      | inl e ↦ rw (put_same p m g gs e) (or_left _ _ (is_same p g.place e))
      | inr s ↦ elim s [
        | inl e ↦ rw (put_front p m g gs e) (or_left _ _ (is_same p p refl))
        | inr e ↦ rw (put_on p m g gs e) (or_right _ _ (held_put p m gs))
      ]
    ]

-- a fact that is there has its group in every table of the facts
pub held_there : (ss : Dims) (ls : Row) (e : Entry) (es : List Entry) → 0 < copies e es → held (place_at ss ls e.place) (table ss ls es) ≡ true
held_there ss ls e es h =
    rw (pulled ss ls e es h, table_more ss ls e (without e es)) (held_put (place_at ss ls e.place) (one e.amount) (table ss ls (without e es)))

-- so one without a group is not there
pub nowhere : (ss : Dims) (ls : Row) (e : Entry) (es : List Entry) → held (place_at ss ls e.place) (table ss ls es) ≡ false → copies e es ≡ 0
nowhere ss ls e es h =
    elim (cases_lt 0 (copies e es)) [
      | inl some ↦ absurd (both_ways (held (place_at ss ls e.place) (table ss ls es)) h (held_there ss ls e es some))
      | inr none ↦ omega arith
    ]

found_none : (p : Row) (t : Table) (r : Result ℕ ℕ) → Found p t r → is_ok r ≡ false → held p t ≡ false
found_none p t (Ok i) found bad = absurd (true≢false bad)
found_none p t (Err i) found bad = held_would p t i found

module _ (l : Layout) (book tables : List ℕ) (m : Memory l book tables) where
  -- the finest table says it
  pub not_there : (e : Entry) (q : List ℕ) (r : Result ℕ ℕ) (b : Bool) → q ≡ part (part_size l) 0 tables
      → Found (place_at (sides l) (take (wide l) q) e.place) (table_in (wide l) q) r → b ≡ is_ok r → b ≡ false → copies e (facts_in (wide l) book) ≡ 0
  not_there e q r b is found ok bad =
      let k = kept_in (wide l) (part (part_size l) 0 tables) in
      let at = table_at (wide l) (part_size l) 0 tables k (some_kept l book tables m) in
      let right = m.valid.sound.right 0 k m.valid.sound.some in
      let cells : table_in (wide l) (part (part_size l) 0 tables) ≡ table (sides l) (take (wide l) (part (part_size l) 0 tables)) (facts_in (wide l) book) =
      ap (λ (d : Kept). d.cells) (sym at) ∙ right ∙ ap (λ (d : Kept). table (sides l) d.levels (facts_in (wide l) book)) at in
      let none = found_none (place_at (sides l) (take (wide l) q) e.place) (table_in (wide l) q) r found (sym ok ∙ bad) in
      nowhere (sides l) (take (wide l) (part (part_size l) 0 tables)) e (facts_in (wide l) book) (rw (is, cells) at none)

  pub few_tables : get_or tables 0 0 ≤ 16
  few_tables = rw (tables_length (wide l) (part_size l) tables) at m.valid.tables

  module _ (xs : Row) (f : Fact) (read : fact_refusal (sides l) xs ≡ None) (is : entry_of (wide l) f ≡ entry_in (sides l) xs) where
    pub nothing_deleted : false ≡ ltb 0 (copies (entry_of (wide l) f) (facts_in (wide l) book))
        → refusal (sides l) (limits l) (house_in l book tables) (delete xs) ≡ Some NoSuchFact
    nothing_deleted none =
        let n = ltb-false 0 (copies (entry_of (wide l) f) (facts_in (wide l) book)) (sym none) in
        let z : copies (entry_in (sides l) xs) (facts_in (wide l) book) ≡ 0 = sym (ap (λ (e : Entry). copies e (facts_in (wide l) book)) is) ∙ omega arith in
        rw (read, eq-eqb (copies (entry_in (sides l) xs) (facts_in (wide l) book)) 0 z)

    pub deleted_done : (book₁ tables₁ : List ℕ) → true ≡ ltb 0 (copies (entry_of (wide l) f) (facts_in (wide l) book))
        → facts_in (wide l) book₁ ≡ without (entry_of (wide l) f) (facts_in (wide l) book) → Holds (wide l) l.book.room book₁
        → length tables₁ ≡ length tables → Each (part_size l) (WithoutFact l.tables (entry_of (wide l) f)) (get_or tables 0 0) tables tables₁
        → Does l (delete xs) Done book tables book₁ tables₁
    deleted_done book₁ tables₁ some facts holds long each =
        let n = ltb-true 0 (copies (entry_of (wide l) f) (facts_in (wide l) book)) (sym some) in
        let same = ap (λ (e : Entry). copies e (facts_in (wide l) book)) is in
        let accepted : refusal (sides l) (limits l) (house_in l book tables) (delete xs) ≡ None =
        rw (read, ne_eqb (copies (entry_in (sides l) xs) (facts_in (wide l) book)) 0 (λ z. omega (arith, same, n))) in
        let kept = tables_mapped (wide l) (part_size l) (WithoutFact l.tables (entry_of (wide l) f)) (without_fact (sides l) (entry_of (wide l) f)) tables tables₁ (λ us vs r. r.table) each in
        does_done l (delete xs) book tables book₁ tables₁ m accepted refl holds (facts ∙ ap (λ (e : Entry). without e (facts_in (wide l) book)) is) (long ∙ m.long)
        (record {
          are = kept ∙ ap (λ (e : Entry). map (without_fact (sides l) e) (tables_in (wide l) (part_size l) tables)) is;
          sound = λ i k. (each.made i (rw each.head at k)).sound;
        })
