use Rattle.std.proofs.Common.{◌≡◌, ℕ, true, false, Option, Some, None, Ok, Err, ok_or, sym, ◌∙◌}
use Rattle.hierarchy.specs.Dimensions.{Dims, Row}
use Rattle.hierarchy.specs.Levels.{same, finest}
use Rattle.hierarchy.specs.Reading.{levels_in, levels_refusal}
use Rattle.replies.specs.declared.Refusal.TheVariants.{NotKept}
use Rattle.model.specs.House.{House, Limits, drop_table, kept_at, refusal}
use Rattle.storage.specs.Memory.{sides, limits, house_in}
use Rattle.tables.specs.Ready.{kept_tables}
use Rattle.model.proofs.Laws.{drop_accepted}
use Rattle.tables.proofs.Scans.{read_are}
use Rattle.storage.proofs.layout.Layout.may_drop.Goals as goal

pub returns-then-are_finest : goal.returns-then-are_finest
returns-then-are_finest c =
    λ book.
    let l = c.args.self.now in
    let there = c.in_ok-levels.ensures.0 in
    let m = read_are l.tables c.in_ok-levels.levels c.args.numbers.now there c.in_ok-levels.ensures.1 in
    let is : same (levels_in (sides l) c.args.numbers.now) (finest (sides l)) ≡ true = rw (← m) (sym c.are_finest.ensures ∙ c.if-are_finest.true) in
    rw (there, is)

-- by where the table is kept, if it is
decided : (ss : Dims) (lim : Limits) (h : House) (xs : Row) (o : Option ℕ) → levels_refusal ss xs ≡ None → same (levels_in ss xs) (finest ss) ≡ false
    → kept_at (levels_in ss xs) 0 h.kept ≡ o
    → elim (ok_or o NotKept) as (λ _. Type 0) [ Ok i ↦ (refusal ss lim h (drop_table xs) ≡ None) × (kept_at (levels_in ss xs) 0 h.kept ≡ Some i) | Err e ↦ refusal ss lim h (drop_table xs) ≡ Some e ]
decided ss lim h xs (Some i) there is at = (drop_accepted ss lim h xs i there is at, at)
decided ss lim h xs None there is at = rw (there, is, at)

pub returns : goal.returns
returns c =
    λ book.
    let l = c.args.self.now in
    let there = c.in_ok-levels.ensures.0 in
    let m = read_are l.tables c.in_ok-levels.levels c.args.numbers.now there c.in_ok-levels.ensures.1 in
    let is : same (levels_in (sides l) c.args.numbers.now) (finest (sides l)) ≡ false = rw (← m) (sym c.are_finest.ensures ∙ c.if-are_finest.false) in
    let at : kept_at (levels_in (sides l) c.args.numbers.now) 0 (kept_tables l.tables c.args.tables.now) ≡ c.place_of.result = rw (← m) (sym c.place_of.ensures) in
    rw c.ok_or.ensures.value
    (decided (sides l) (limits l) (house_in l book c.args.tables.now) c.args.numbers.now c.place_of.result there is at)
