use Rattle.storage.proofs.Asks.{row_told}
use Rattle.warehouse.proofs.Door.{lent_memory}
use Rattle.warehouse.proofs.house.Warehouse.ask.Goals as goal

pub ask-requires : goal.ask-requires
ask-requires c = lent_memory c.deref.ensures.value c.deref-2.ensures.value c.args.self.now.valid

pub returns : goal.returns
returns c =
    let book = c.deref.ensures.value in
    let tables = c.deref-2.ensures.value in
    let e = c.ask.ensures in
    rw (← book, ← tables) (record { reply = e.reply; row = e.row; shown = row_told c.args.numbers.now c.args.out.now (lent_memory book tables c.args.self.now.valid) e.row })
