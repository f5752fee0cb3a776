use Rattle.std.proofs.Common.{sym, refl, ap, ◌∙◌, arith}
use Rattle.std.proofs.lemmas.Bool.{lt-ltb, le-ltb}
use Rattle.hierarchy.specs.Views.{entry_of}
use Rattle.ledger.specs.Book.{in_order, holding}
use Rattle.ledger.proofs.Rows.{order_length}
use Rattle.ledger.proofs.Counts.{newest_gone, newest_counts, none_gone}
use Rattle.ledger.proofs.book.Book.remove.Goals as goal

pub delete-requires : goal.delete-requires
delete-requires c = (c.requires, omega (arith, c.in-Some.ensures, order_length c.args.self.width c.args.row.now))

pub returns : goal.returns
returns c =
    let w = c.args.self.width in
    let xs = c.args.row.now in
    let e = entry_of w c.args.fact in
    let found = c.in-Some.ensures in
    let gone = newest_gone e (in_order w xs) c.in-Some.i found in
    record {
      told = sym (lt-ltb 0 _ (newest_counts e (in_order w xs) c.in-Some.i found));
      after = c.delete.ensures.after ∙ sym (ap (λ es. holding w es xs) gone);
      facts = c.delete.ensures.facts ∙ sym gone;
      holds = c.delete.ensures.holds;
    }

pub returns-in_default : goal.returns-in_default
returns-in_default c =
    let none = c.in_default.ensures in
    record { told = sym (le-ltb 0 _ (omega (arith, none))); after = refl; facts = sym (none_gone _ _ none); holds = c.requires }
