-- Memory before and after a deed. Assumes nothing.
use Rattle.std.proofs.Common.{◌≡◌, ℕ, ◌+◌, ◌-◌, ◌*◌, ◌^◌, ◌<◌, ◌≤◌, List, length, get_or, Some, None, sym, refl, ap, ◌∙◌, subst, mul-le-mul_left, arith}
use Rattle.hierarchy.specs.Dimensions.{Dims, Row}
use Rattle.hierarchy.specs.Facts.{Entry}
use Rattle.hierarchy.specs.Reading.{levels_refusal, levels_in}
use Rattle.replies.specs.declared.Refusal.{Refusal}
use Rattle.replies.specs.declared.Reply.TheVariants.{Done, Shown, Refused}
use Rattle.hierarchy.proofs.Laws.{levels_length}
use Rattle.ledger.specs.Book.{Holds, facts_in}
use Rattle.totals.specs.Counts.{total}
use Rattle.summary.specs.Memory as summary
use Rattle.summary.specs.Memory.{start, row_over}
use Rattle.totals.specs.Tables.{rolled}
use Rattle.model.specs.House.{Kept, House, Deed, ask, Told, done, source, table_length, refusal, after, answered, step, told}
use Rattle.model.specs.Promises.{Valid}
use Rattle.storage.specs.Memory.{sides, wide, limits, part_size, house_in, Memory, reply_of, row_after, Does}
use Rattle.tables.specs.Memory.{part}
use Rattle.tables.specs.Ready.{kept_table, kept_tables, Ready, Left}
use Rattle.storage.specs.declared.layout.Layout.{Layout}
use Rattle.hierarchy.proofs.Theory.{levels_read}
use Rattle.model.proofs.Steps.{step_done, step_refused, told_done, told_refused}
use Rattle.model.proofs.Sound.{step_holds}
use Rattle.model.proofs.Laws.{ask_accepted, cells_bounded}
use Rattle.tables.proofs.Places.{tables_length, table_at}

-- the tables of a warehouse are such as a deed may find
pub memory_ready : (l : Layout) (book tables : List ℕ) → Memory l book tables → Ready l.tables tables
memory_ready l book tables m =
    let h = house_in l book tables in
    let v = m.valid in
    let n = tables_length (wide l) (part_size l) tables in
    let small : length h.facts ≤ 2 ^ 32 = omega (arith, v.few, l.book.bounded) in
    let most = mul-le-mul_left (2 ^ 32 - 1) small in
    record {
      long = m.long;
      some = omega (arith, n, v.sound.some);
      few = omega (arith, n, v.tables);
      sound = m.sound;
      fits = λ i k.
          let d = kept_table l.tables i tables in
          let b = cells_bounded (sides l) h v.sound v.whole i d (omega (arith, n)) in
          subst (λ (t : Kept). ((total t.cells).count < 2 ^ 64) × ((total t.cells).sum < 2 ^ 64))
          (table_at (wide l) (part_size l) i tables d k) (omega (arith, b.counts, small), omega (arith, b.sums, most));
    }

-- memory whose facts and tables are those after the deed holds the warehouse after it
pub rebuilt : (l : Layout) (d : Deed) (book tables book₁ tables₁ : List ℕ) → Memory l book tables
    → Holds (wide l) l.book.room book₁ → length tables₁ ≡ 1 + part_size l * 16
    → ((i : ℕ) → i < get_or tables₁ 0 0 → summary.Sound (wide l) (part (part_size l) i tables₁))
    → house_in l book₁ tables₁ ≡ step (sides l) (limits l) (house_in l book tables) d → Memory l book₁ tables₁
rebuilt l d book tables book₁ tables₁ m holds long sound e =
    record {
      booked = holds;
      long = long;
      sound = sound;
      valid = subst (λ (h : House). Valid (sides l) (limits l) h) (sym e) (step_holds (sides l) (limits l) (house_in l book tables) d m.valid);
    }

done_not_refused : (x : Refusal) {P : Type 0} → Done ≡ Refused x → P
done_not_refused x e = let z : ◌≡◌ {A = ℕ} 0 1 = cc in absurd (omega arith)

house_is : (es : List Entry) (ks : List Kept) (h : House) → es ≡ h.facts → ks ≡ h.kept → record { facts = es; kept = ks } ≡ h
house_is es ks h a b =
    let e : ◌≡◌ {A = House} (record { facts = es; kept = ks }) (record { facts = h.facts; kept = h.kept }) = cc in
    e

-- a deed that is done
pub does_done : (l : Layout) (d : Deed) (book tables book₁ tables₁ : List ℕ) → Memory l book tables
    → refusal (sides l) (limits l) (house_in l book tables) d ≡ None → answered (sides l) (house_in l book tables) d ≡ done
    → Holds (wide l) l.book.room book₁ → facts_in (wide l) book₁ ≡ (after (sides l) (house_in l book tables) d).facts
    → length tables₁ ≡ 1 + part_size l * 16 → Left l.tables (after (sides l) (house_in l book tables) d).kept tables₁
    → Does l d Done book tables book₁ tables₁
does_done l d book tables book₁ tables₁ m accepted told_of holds facts long left =
    let h = house_in l book tables in
    let made = house_is (facts_in (wide l) book₁) (kept_tables l.tables tables₁) (after (sides l) h d) facts left.are in
    let house = made ∙ sym (step_done (sides l) (limits l) h d accepted) in
    record {
      reply = sym (ap reply_of (told_done (sides l) (limits l) h d accepted ∙ told_of));
      house = house;
      memory = rebuilt l d book tables book₁ tables₁ m holds long left.sound house;
      untouched = λ x e. done_not_refused x e;
    }

-- and one that is refused
pub does_refused : {l : Layout} {d : Deed} {x : Refusal} {book tables : List ℕ} → Memory l book tables
    → refusal (sides l) (limits l) (house_in l book tables) d ≡ Some x → Does l d (Refused x) book tables book tables
does_refused {l} {d} {x} {book} {tables} m e =
    let h = house_in l book tables in
    record {
      reply = sym (ap reply_of (told_refused (sides l) (limits l) h d x e));
      house = sym (step_refused (sides l) (limits l) h d x e);
      memory = m;
      untouched = λ y q. (refl, refl);
    }

-- a question that is refused
pub asked_refused : (l : Layout) (xs : Row) (n : ℕ) (x : Refusal) (book tables out : List ℕ)
    → refusal (sides l) (limits l) (house_in l book tables) (ask xs n) ≡ Some x
    → let t = told (sides l) (limits l) (house_in l book tables) (ask xs n) in
    (Refused x ≡ reply_of t) × (out ≡ row_after (levels_in (sides l) xs) t out)
asked_refused l xs n x book tables out e =
    let q = told_refused (sides l) (limits l) (house_in l book tables) (ask xs n) x e in
    (sym (ap reply_of q), sym (ap (λ (t : Told). row_after (levels_in (sides l) xs) t out) q))

row_shown : (w : ℕ) (ss : Dims) (ls ms : Row) (k k₁ : Kept) (out : List ℕ) → length ls ≡ w → ms ≡ ls → k ≡ k₁
    → row_over w ms (rolled ss k.levels ms k.cells) out ≡ row_over (length ls) ls (rolled ss k₁.levels ls k₁.cells) out
row_shown w ss ls ms k k₁ out a b c = rw (a, b, c)

-- and one that is answered from the i-th table
pub asked_shown : (l : Layout) (xs ms : Row) (i n : ℕ) (book tables out out₁ : List ℕ) → levels_refusal (sides l) xs ≡ None
    → ms ≡ levels_in (sides l) xs → kept_table l.tables i tables ≡ source (sides l) ms (kept_tables l.tables tables)
    → start (wide l) (length (kept_table l.tables i tables).cells) ≤ n
    → out₁ ≡ row_over (wide l) ms (rolled (sides l) (kept_table l.tables i tables).levels ms (kept_table l.tables i tables).cells) out
    → let t = told (sides l) (limits l) (house_in l book tables) (ask xs n) in
    (Shown (length (kept_table l.tables i tables).cells) ≡ reply_of t) × (out₁ ≡ row_after (levels_in (sides l) xs) t out)
asked_shown l xs ms i n book tables out out₁ there e is room written =
    let ss = sides l in
    let ls = levels_in ss xs in
    let k = kept_table l.tables i tables in
    let k₁ = source ss ls (kept_tables l.tables tables) in
    let h = house_in l book tables in
    let same_kept : k ≡ k₁ = is ∙ ap (λ (ns : Row). source ss ns (kept_tables l.tables tables)) e in
    let fits : table_length (wide l) (length k₁.cells) ≤ n = rw (← same_kept) room in
    let q = told_done ss (limits l) h (ask xs n) (ask_accepted ss (limits l) h xs n there fits) in
    let long = levels_length ss ls (levels_read ss xs there) in (
      ap (λ (x : Kept). Shown (length x.cells)) same_kept ∙ sym (ap reply_of q),
      written ∙ (row_shown (wide l) ss ls ms k k₁ out long e same_kept ∙ sym (ap (λ (t : Told). row_after ls t out) q)),
    )
