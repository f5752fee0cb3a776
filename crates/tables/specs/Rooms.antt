-- What a room is for. Assumes nothing: these are definitions.
use Rattle.std.specs.Prelude.{ℕ, ◌+◌, ◌*◌}
use Rattle.model.specs.House.{Limits}
use Rattle.tables.specs.declared.room.Room.{Room}

abbrev pub limits_of : Room → Limits
limits_of m = record { facts = m.facts; groups = m.groups }

-- 65,536 facts, and 4,096 groups a table
abbrev pub standard : Limits
standard = record { facts = 65536; groups = 4096 }

-- the length of a row that holds any table of one to four dimensions: four levels, the count, and six numbers a group
abbrev pub row_of : Room → ℕ
row_of m = 5 + 6 * m.groups
