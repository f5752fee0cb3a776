-- Which room the program gives a day. Assumes nothing: these are definitions.
use Rattle.std.specs.Prelude.{ℕ, ◌+◌, ◌*◌, Bool, true, false}
use Rattle.model.specs.House.{Limits}
use Rattle.tables.specs.Rooms.{standard}
use Rattle.journal.specs.Room.{replay_limits, replay_row}

-- the small room, or the standard one where it is asked for
abbrev pub program_limits : Bool → Limits
program_limits false = replay_limits
program_limits true = standard

-- the length of the row that is lent to every ask: in the standard room it holds 4,096 groups of four dimensions
abbrev pub program_row : Bool → ℕ
program_row false = replay_row
program_row true = 5 + 6 * standard.groups
