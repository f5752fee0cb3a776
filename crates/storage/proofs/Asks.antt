-- What a lent row holds after an answer. Assumes nothing.
use Rattle.std.proofs.Common.{◌≡◌, ℕ, ◌≤◌, true, List, length, drop, None, sym, refl, ap, ◌∙◌, inl, inr, arith}
use Rattle.std.proofs.ByRecursion.{All-get_or}
use Rattle.hierarchy.specs.Dimensions.{Row}
use Rattle.hierarchy.specs.Levels.{are_levels}
use Rattle.hierarchy.specs.Reading.{levels_in}
use Rattle.replies.specs.declared.Refusal.{Refusal}
use Rattle.hierarchy.proofs.Laws.{levels_length}
use Rattle.hierarchy.proofs.Parts.{place_le}
use Rattle.hierarchy.proofs.Theory.{levels_read}
use Rattle.totals.specs.Tables.{Cell, Table, table}
use Rattle.summary.specs.Memory.{start, stride, table_in, row_over, Wide, Whole}
use Rattle.summary.proofs.Holdings.{table_row, count_row, length_row}
use Rattle.totals.proofs.Put.{rolled_length}
use Rattle.ledger.specs.Book.{facts_in}
use Rattle.model.specs.House.{Told, ask, answer, refusal, refused, shown, source, told}
use Rattle.storage.specs.Memory.{sides, wide, limits, house_in, Memory, row_after}
use Rattle.storage.specs.declared.layout.Layout.{Layout}
use Rattle.model.proofs.Laws.{table_wide}
use Rattle.model.proofs.Sound.{sound_front, sound_good}
use Rattle.model.proofs.Source.{answer_right}
use Rattle.model.proofs.Steps.{told_done, told_refused, cases_refusal, ask_done}

shown_not_refused : (t : Table) (n : ℕ) (r : Refusal) {P : Type 0} → shown t n ≡ refused r → P
shown_not_refused t n r e = let z : ◌≡◌ {A = ℕ} 0 1 = cc in absurd (omega arith)

module _ (l : Layout) (book tables : List ℕ) (m : Memory l book tables) (xs : Row) (n : ℕ) (t : Table) (work : ℕ)
    (tells : told (sides l) (limits l) (house_in l book tables) (ask xs n) ≡ shown t work) where
  accepted : refusal (sides l) (limits l) (house_in l book tables) (ask xs n) ≡ None
  accepted =
      elim (cases_refusal (refusal (sides l) (limits l) (house_in l book tables) (ask xs n))) [
        | inl e ↦ e
        | inr r ↦ shown_not_refused t work r.0 (sym tells ∙ told_refused (sides l) (limits l) (house_in l book tables) (ask xs n) r.0 r.1)
      ]

  -- the table that is shown
  is-answer : t ≡ answer (sides l) (levels_in (sides l) xs) (house_in l book tables).kept
  is-answer = let e = sym tells ∙ told_done (sides l) (limits l) (house_in l book tables) (ask xs n) accepted in cc

  there : are_levels (sides l) (levels_in (sides l) xs) ≡ true
  there = levels_read (sides l) xs (ask_done (sides l) (limits l) (house_in l book tables) xs n accepted).0

  levels_long : length (levels_in (sides l) xs) ≡ wide l
  levels_long = levels_length (sides l) (levels_in (sides l) xs) there

  is-table : t ≡ table (sides l) (levels_in (sides l) xs) (facts_in (wide l) book)
  is-table =
      is-answer ∙ answer_right (sides l) (levels_in (sides l) xs) (facts_in (wide l) book) (house_in l book tables).kept (sound_front (sides l) (house_in l book tables) m.valid.sound)
      there (sound_good (sides l) (house_in l book tables) m.valid.sound)

  is_wide : Wide (wide l) t
  is_wide = rw is-table (λ i d k. All-get_or (λ (g : Cell). length g.place ≡ wide l) (table (sides l) (levels_in (sides l) xs) (facts_in (wide l) book)) i d k
      (table_wide (sides l) (levels_in (sides l) xs) (facts_in (wide l) book) levels_long m.valid.whole))

  has_room : start (wide l) (length t) ≤ n
  has_room =
      let s = source (sides l) (levels_in (sides l) xs) (house_in l book tables).kept in
      let less = rolled_length (sides l) s.levels (levels_in (sides l) xs) s.cells in
      let few : length t ≤ length s.cells = rw is-answer less in
      omega (arith, place_le (stride (wide l)) (length t) (length s.cells) few, (ask_done (sides l) (limits l) (house_in l book tables) xs n accepted).1)

  -- a row that holds the answer holds a table
  row_shown : (out out₁ : List ℕ) → length out ≡ n → out₁ ≡ row_over (length (levels_in (sides l) xs)) (levels_in (sides l) xs) t out
      → (table_in (wide l) out₁ ≡ t) × Whole (wide l) out₁
  row_shown out out₁ long is =
      let e : out₁ ≡ row_over (wide l) (levels_in (sides l) xs) t out = is ∙ ap (λ w. row_over w (levels_in (sides l) xs) t out) levels_long in
      let rest = drop (start (wide l) (length t)) out in
      let cells = table_row (wide l) (levels_in (sides l) xs) levels_long t rest is_wide in
      let count = count_row (wide l) (levels_in (sides l) xs) levels_long t rest in
      let whole = length_row (wide l) (levels_in (sides l) xs) levels_long t rest is_wide in
      (ap (table_in (wide l)) e ∙ cells, rw e (rw (count, whole) (omega arith)))

-- the row of a question, where a table is shown
pub row_told : {l : Layout} {book tables : List ℕ} (xs : Row) (out : List ℕ) {out₁ : List ℕ} → Memory l book tables
    → out₁ ≡ row_after (levels_in (sides l) xs) (told (sides l) (limits l) (house_in l book tables) (ask xs (length out))) out
    → (t : Table) (n : ℕ) → told (sides l) (limits l) (house_in l book tables) (ask xs (length out)) ≡ shown t n
    → (table_in (wide l) out₁ ≡ t) × Whole (wide l) out₁
row_told {l} {book} {tables} xs out {out₁} m row t n tells =
    row_shown l book tables m xs (length out) t n tells out out₁ refl (row ∙ ap (λ (d : Told). row_after (levels_in (sides l) xs) d out) tells)
