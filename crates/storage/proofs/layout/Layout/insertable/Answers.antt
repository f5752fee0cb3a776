use Rattle.std.proofs.Common.{true, false, Some, sym, ap, ◌∙◌}
use Rattle.hierarchy.specs.Views.{entry_of}
use Rattle.replies.specs.declared.Refusal.TheVariants.{LedgerFull}
use Rattle.hierarchy.proofs.Widths.{dims_few}
use Rattle.storage.specs.Memory.{sides, wide}
use Rattle.storage.proofs.Inserts.{read_entry, first_sound, full_refused, room_by}
use Rattle.storage.proofs.layout.Layout.insertable.Goals as goal

pub returns-then-is_full : goal.returns-then-is_full
returns-then-is_full c =
    full_refused c.args.self.now c.args.book.now c.args.tables.now c.requires c.args.numbers.now c.in_ok-fact.ensures.0 c.if-is_full.ensures
    ∙ ap (λ n. Some (LedgerFull n)) (sym c.room.ensures)

pub takes-requires : goal.takes-requires
takes-requires c = (rw c.part.ensures.0 (first_sound c.args.self.now c.args.book.now c.args.tables.now c.requires), c.part.ensures.1)

pub returns-then-not-takes : goal.returns-then-not-takes
returns-then-not-takes c =
    let read = c.in_ok-fact.ensures in
    let entry = read_entry (sides c.args.self.now) c.args.numbers.now c.in_ok-fact.fact (dims_few c.args.self.now.tables.dims) read.0 read.1 read.2 in
    room_by c.args.self.now c.args.book.now c.args.tables.now c.requires c.args.numbers.now read.0 false (entry_of (wide c.args.self.now) c.in_ok-fact.fact)
    c.part.result.now entry.0 c.part.ensures.0 c.if-is_full.ensures c.if-not-takes.ensures

pub returns : goal.returns
returns c =
    let read = c.in_ok-fact.ensures in
    let entry = read_entry (sides c.args.self.now) c.args.numbers.now c.in_ok-fact.fact (dims_few c.args.self.now.tables.dims) read.0 read.1 read.2 in (
      room_by c.args.self.now c.args.book.now c.args.tables.now c.requires c.args.numbers.now read.0 true (entry_of (wide c.args.self.now) c.in_ok-fact.fact)
          c.part.result.now entry.0 c.part.ensures.0 c.if-is_full.ensures c.if-not-takes.ensures,
      entry.0,
    )
