use Rattle.std.proofs.Common.{◌≡◌, length, take, arith, length-take, rules}
use Rattle.hierarchy.specs.Views.{entry_of}
use Rattle.ledger.proofs.Rows.{inserted_row}
use Rattle.ledger.proofs.book.Book.insert.Goals as goal

pub returns : goal.returns
returns c =
    let w = c.args.self.width in
    let four : length c.args.fact.place ≡ 4 = search rules in
    let long : length (take w c.args.fact.place) ≡ w = omega (arith, length-take w c.args.fact.place) in
    let n = c.count-n.ensures in
    let p = c.write.ensures in
    let r = inserted_row w c.args.self.room c.args.row.now (entry_of w c.args.fact) c.requires.holds c.requires.free long _ (cc) in
    record { after = r.0; facts = r.1; holds = r.2 }
