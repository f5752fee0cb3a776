use Rattle.std.proofs.Common.{refl}
use Rattle.warehouse.proofs.Door.{lent_memory, door_tables}
use Rattle.warehouse.proofs.house.Warehouse.drop_table.Goals as goal

pub drop_table-requires : goal.drop_table-requires
drop_table-requires c = lent_memory c.deref.ensures.value c.deref_mut.ensures.value c.args.self.now.valid

pub invariant_of-self : goal.invariant_of-self
invariant_of-self c =
    let d = door_tables c.args.self.now.book c.args.self.now.tables c.deref.ensures.value c.deref_mut.ensures.value
    c.deref_mut.ensures.len c.drop_table.auto.tables c.drop_table.ensures in
    record { valid = ∣ d.memory ∣₁; exact = c.args.self.now.exact }

pub returns : goal.returns
returns c =
    let d = door_tables c.args.self.now.book c.args.self.now.tables c.deref.ensures.value c.deref_mut.ensures.value
    c.deref_mut.ensures.len c.drop_table.auto.tables c.drop_table.ensures in
    record { reply = d.reply; house = d.house; same = refl }
