use Rattle.std.proofs.Common.{refl}
use Rattle.warehouse.proofs.Door.{lent_memory, door_deed}
use Rattle.warehouse.proofs.house.Warehouse.insert.Goals as goal

pub insert-requires : goal.insert-requires
insert-requires c = lent_memory c.deref_mut.ensures.value c.deref_mut-2.ensures.value c.args.self.now.valid

pub invariant_of-self : goal.invariant_of-self
invariant_of-self c =
    let d = door_deed c.args.self.now.book c.args.self.now.tables c.deref_mut.ensures.value c.deref_mut-2.ensures.value
    c.deref_mut.ensures.len c.deref_mut-2.ensures.len c.insert.auto.book c.insert.auto.tables c.insert.ensures in
    record { valid = ∣ d.memory ∣₁; exact = c.args.self.now.exact }

pub returns : goal.returns
returns c =
    let d = door_deed c.args.self.now.book c.args.self.now.tables c.deref_mut.ensures.value c.deref_mut-2.ensures.value
    c.deref_mut.ensures.len c.deref_mut-2.ensures.len c.insert.auto.book c.insert.auto.tables c.insert.ensures in
    record { reply = d.reply; house = d.house; same = refl }
