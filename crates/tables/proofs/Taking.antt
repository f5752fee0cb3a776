-- Whether a table takes one fact more. Assumes nothing.
use Rattle.std.proofs.Common.{◌≡◌, ℕ, suc, ◌≤◌, Bool, true, false, ltb, leb, List, length, take, is_ok, Ok, Err, Result, sym, ap, ◌∙◌, inl, inr, arith}
use Rattle.std.proofs.lemmas.List.{length-set}
use Rattle.std.proofs.lemmas.List.Edits.{length-insert}
use Rattle.std.proofs.lemmas.Bool.{cases_lt, le-leb, true≢false}
use Rattle.hierarchy.specs.Dimensions.{Dims, Row}
use Rattle.hierarchy.specs.Facts.{Entry}
use Rattle.hierarchy.specs.Places.{place_at}
use Rattle.hierarchy.proofs.Parts.{place_le, next_place}
use Rattle.totals.specs.Tables.{Measure, Table, one, put}
use Rattle.totals.specs.Promises.{InOrder}
use Rattle.summary.specs.Memory.{start, stride, count_in, table_in, Found}
use Rattle.summary.specs.Memory as summary
use Rattle.summary.proofs.Rows.{table_length}
use Rattle.summary.proofs.Spots.{put_stands, put_would}
use Rattle.model.specs.House.{with_fact}
use Rattle.tables.specs.Memory.{kept_in}

-- no more groups than there is room for
pub few_groups : (w n g : ℕ) → start w n ≤ start w g → n ≤ g
few_groups w n g h =
    elim (cases_lt g n) [
      | inl more ↦ absurd (omega (arith, place_le (stride w) (suc g) n more, next_place (stride w) g))
      | inr less ↦ less
    ]

-- where a place was found, or where it would stand: whether the table with it has no more groups than there is room for
pub found_takes : (p : Row) (m : Measure) (t : Table) (g : ℕ) (r : Result ℕ ℕ) → InOrder t → length t ≤ g → Found p t r → is_ok r ≡ true
    → true ≡ leb (length (put p m t)) g
found_takes p m t g (Ok i) order few found ok =
    let e = ap length (put_stands p m t i order found) ∙ length-set t i _ in
    sym (rw e (le-leb (length t) g few))
found_takes p m t g (Err i) order few found ok = absurd (true≢false (sym ok))

pub new_takes : (p : Row) (m : Measure) (t : Table) (g : ℕ) (r : Result ℕ ℕ) → Found p t r → is_ok r ≡ false → ltb (length t) g ≡ leb (length (put p m t)) g
new_takes p m t g (Ok i) found bad = absurd (true≢false bad)
new_takes p m t g (Err i) found bad =
    let e : length (put p m t) ≡ suc (length t) = ap length (put_would p m t i found) ∙ length-insert t i _ found.0 ∙ (omega arith) in
    sym (ap (λ n. leb n g) e)

module _ (ss : Dims) (v : ℕ) (q : v ≡ length ss) (e : Entry) (xs : List ℕ) (g : ℕ) (r : Result ℕ ℕ) (s : summary.Sound (length ss) xs)
    (exact : length xs ≡ start (length ss) g) (found : Found (place_at ss (take (length ss) xs) e.place) (table_in (length ss) xs) r) where
  few : length (table_in (length ss) xs) ≤ g
  few = rw (table_length (length ss) xs) (few_groups (length ss) (count_in (length ss) xs) g (rw exact at s.whole))

  pub takes_found : (b : Bool) → b ≡ is_ok r → b ≡ true → b ≡ leb (length (with_fact ss e (kept_in (length ss) xs)).cells) g
  takes_found b is ok =
      ok ∙ found_takes (place_at ss (take (length ss) xs) e.place) (one e.amount) (table_in (length ss) xs) g r s.ordered few found (sym is ∙ ok)

  pub takes_new : (b : Bool) (n : ℕ) → b ≡ is_ok r → b ≡ false → n ≡ count_in v xs → ltb n g ≡ leb (length (with_fact ss e (kept_in (length ss) xs)).cells) g
  takes_new b n is bad count =
      let m : n ≡ length (table_in (length ss) xs) = count ∙ ap (λ (k : ℕ). count_in k xs) q ∙ sym (table_length (length ss) xs) in
      ap (λ k. ltb k g) m
      ∙ new_takes (place_at ss (take (length ss) xs) e.place) (one e.amount) (table_in (length ss) xs) g r found (sym is ∙ bad)
