use Rattle.ledger.proofs.Rows.{deleted_row}
use Rattle.ledger.proofs.book.Book.delete.Goals as goal

pub returns : goal.returns
returns c =
    let w = c.args.self.width in
    let e = c.count-n.ensures in
    let a = c.start-at.ensures in
    let b = c.start-next.ensures in
    let d = c.start-end.ensures in
    let p = c.copy_within.ensures.after in
    let r = deleted_row w c.args.self.room c.args.i c.args.row.now c.requires.0 c.requires.1 _ (cc) in
    record { after = r.0; facts = r.1; holds = r.2 }
