use Rattle.greedy.proofs.by_sizes.choose_by_sizes.Goals as goal

pub returns : goal.returns
returns c = let made = c.in_ok-all.ensures in rw (c.deref_mut.ensures.value, made.1) at c.take_turns.ensures
