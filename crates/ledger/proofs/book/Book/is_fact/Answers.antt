use Rattle.std.proofs.Common.{arith, rules}
use Rattle.ledger.proofs.Rows.{same_read}
use Rattle.ledger.proofs.book.Book.is_fact.Goals as goal

pub returns-then-fact-part : goal.returns-then-fact-part
returns-then-fact-part c =
    let h = same_read c.args.self.width _ c.args.fact.place c.args.part.now c.eq.result (omega arith) c.eq.ensures in
    search (rules, h)
