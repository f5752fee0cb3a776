use Rattle.std.proofs.Common.{◌≡◌, ◌-◌, length, take, arith, length-take, rules}
use Rattle.ledger.proofs.Rows.{fact_end, part_written}
use Rattle.ledger.proofs.book.Book.write.Goals as goal

pub returns : goal.returns
returns c =
    let w = c.args.self.width in
    let xs = c.args.row.now in
    let h = fact_end w c.args.self.room c.args.i (length xs) c.requires.1 c.requires.0 in
    let e : w - 0 ≡ w = omega arith in
    let p : c.copy_from_slice.new.self ≡ take w c.args.fact.place = rw e at c.copy_from_slice.ensures.after in
    let four : length c.args.fact.place ≡ 4 = search rules in
    let long : length (take w c.args.fact.place) ≡ w = omega (arith, length-take w c.args.fact.place) in
    rw (c.start-at.ensures, p) (part_written w _ _ _ xs (take w c.args.fact.place) c.args.fact.amount (omega (arith, c.stride.ensures)) e long h)
