use Rattle.std.proofs.Common.{refl, ◌∙◌}
use Rattle.warehouse.proofs.Door.{lent_memory, door_tables}
use Rattle.warehouse.proofs.house.Warehouse.keep.Goals as goal

pub keep-requires : goal.keep-requires
keep-requires c =
    record {
      memory = lent_memory c.deref.ensures.value c.deref_mut.ensures.value c.args.self.now.valid;
      row = c.deref_mut-2.ensures.len ∙ c.args.self.now.exact;
    }

pub invariant_of-self : goal.invariant_of-self
invariant_of-self c =
    let d = door_tables c.args.self.now.book c.args.self.now.tables c.deref.ensures.value c.deref_mut.ensures.value
    c.deref_mut.ensures.len c.keep.auto.tables c.keep.ensures in
    record { valid = ∣ d.memory ∣₁; exact = c.args.self.now.exact }

pub returns : goal.returns
returns c =
    let d = door_tables c.args.self.now.book c.args.self.now.tables c.deref.ensures.value c.deref_mut.ensures.value
    c.deref_mut.ensures.len c.keep.auto.tables c.keep.ensures in
    record { reply = d.reply; house = d.house; same = refl }
