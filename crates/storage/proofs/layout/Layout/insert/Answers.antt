use Rattle.storage.proofs.Inserts.{all_ready, inserted_done}
use Rattle.storage.proofs.layout.Layout.insert.Goals as goal

pub put_all-requires-clause-ready : goal.put_all-requires-clause-ready
put_all-requires-clause-ready c =
    let ok = c.in_ok-fact.ensures in
    all_ready c.args.self.now c.args.book.now c.args.tables.now c.requires c.args.numbers.now c.in_ok-fact.fact ok.0 ok.1

pub returns : goal.returns
returns c =
    let ok = c.in_ok-fact.ensures in
    inserted_done c.args.self.now c.args.book.now c.args.tables.now c.requires c.args.numbers.now c.in_ok-fact.fact ok.0 ok.1
    c.args.self.now.book.width c.insert.new.row c.put_all.new.tables c.args.self.now.booked c.insert.ensures.facts c.insert.ensures.holds
    c.put_all.auto.tables c.put_all.ensures
