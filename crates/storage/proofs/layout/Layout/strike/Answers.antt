use Rattle.std.proofs.Common.{sym, refl, ◌∙◌, arith}
use Rattle.std.proofs.lemmas.Bool.{le-ltb}
use Rattle.hierarchy.specs.Facts.{copies}
use Rattle.hierarchy.specs.Views.{entry_of}
use Rattle.ledger.specs.Book.{facts_in}
use Rattle.ledger.proofs.Counts.{none_gone}
use Rattle.storage.specs.Memory.{wide}
use Rattle.storage.proofs.Deletes.{not_there}
use Rattle.storage.proofs.Inserts.{first_sound}
use Rattle.storage.proofs.layout.Layout.strike.Goals as goal

pub find-requires : goal.find-requires
find-requires c =
    rw c.part-finest.ensures.0 (first_sound c.args.self.now c.args.book.now c.args.tables.now c.requires)

pub returns-else-is_ok : goal.returns-else-is_ok
returns-else-is_ok c =
    let l = c.args.self.now in
    let e = entry_of (wide l) c.args.fact in
    let none = not_there l c.args.book.now c.args.tables.now c.requires e c.part-finest.result.now c.find.result c.is_ok.result
    c.part-finest.ensures.0 c.find.ensures c.is_ok.ensures.value c.if-is_ok.false in
    record {
      told = c.if-is_ok.false ∙ sym (le-ltb 0 (copies e (facts_in (wide l) c.args.book.now)) (omega (arith, none)));
      facts = sym (none_gone e (facts_in (wide l) c.args.book.now) none);
      holds = c.requires.booked;
      none = λ _. refl;
    }
