use Rattle.std.proofs.Common.{◌≡◌, ℕ, Some, None, Option, take, drop, get_or, sym, refl, subst, arith, rules}
use Rattle.std.specs.Option.{option_or}
use borrow.Author.Tests.{tests}
use Rattle.hierarchy.specs.Facts.{same_fact, copies}
use Rattle.hierarchy.specs.Views.{entry_of}
use Rattle.ledger.specs.Book.{in_order, facts_in, entry_in, stride, start, nothing, Newest}
use Rattle.ledger.proofs.Rows.{entry_at, order_length}
use Rattle.ledger.proofs.Found.{last_found}
use Rattle.ledger.proofs.Counts.{newest_found}
use Rattle.ledger.proofs.book.Book.find.Goals as goal

-- what stands in for nothing changes no search that found something
or_nothing : (o : Option ℕ) → option_or o None ≡ o
or_nothing None = refl
or_nothing (Some i) = refl

pub returns : goal.returns
returns c =
    let w = c.args.self.width in
    let xs = c.args.row.now in
    let e = entry_of w c.args.fact in
    let h = last_found _ _ _ (λ k. same_fact e (get_or (in_order w xs) k nothing)) c.rfind.ensures.runs (λ a r q m. search (rules, tests)) (λ k b l m.
    let at = entry_at w k xs (omega (arith, c.count.ensures)) in
    let is : b ≡ same_fact e (entry_in w (take (stride w) (drop (start w k) xs))) = search (rules, tests) in
    rw at (sym is)) in
    let found = newest_found e (in_order w xs) c.count.result c.rfind.result (omega (arith, order_length w xs, c.count.ensures)) h in
    subst (λ (o : Option ℕ). elim o as (λ (x : Option ℕ). Type 0) [ Some i ↦ Newest e (in_order w xs) i | None ↦ copies e (facts_in w xs) ≡ 0 ]) (search (rules, or_nothing)) found
