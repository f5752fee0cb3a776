use Rattle.std.proofs.Common.{arith}
use Rattle.hierarchy.proofs.Fours.{place_read}
use Rattle.ledger.proofs.Rows.{entry_at}
use Rattle.ledger.proofs.book.Book.get.Goals as goal

pub returns : goal.returns
returns c =
    let w = c.args.self.width in
    let h = entry_at w c.args.i c.args.row.now c.requires.1 in
    let p = place_read w c.part-part.result.now c.padded.result c.args.self.most (omega (arith, c.part-part.ensures.1)) c.padded.ensures in
    let q = c.part-part.ensures.0 in
    record { fact = cc; rest = p.1 }
