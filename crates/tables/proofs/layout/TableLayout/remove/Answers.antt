use Rattle.std.proofs.Common.{◌-◌, set, ap}
use Rattle.tables.proofs.Moves.{closed}
use Rattle.tables.proofs.layout.TableLayout.remove.Goals as goal

pub returns : goal.returns
returns c =
    let moved = rw (c.at.ensures.0, c.at-2.ensures.0, c.at-3.ensures.0, c.kept-kept.ensures) at c.copy_within.ensures.by_index in
    closed c.args.self.now c.args.i c.args.tables.now c.requires.0.long c.requires.0.few c.requires.1 _ c.copy_within.new.self
    (ap (λ k. set c.copy_within.new.self 0 (k - 1)) c.kept-kept.ensures)
    c.copy_within.ensures.len moved.1 moved.0 c.requires.0.sound
