-- How much room a day has. Assumes nothing: these are definitions.
use Rattle.std.specs.Prelude.{ℕ}
use Rattle.model.specs.House.{Limits}

-- 256 facts, and 64 groups a table
abbrev pub replay_limits : Limits
replay_limits = record { facts = 256; groups = 64 }

-- the length of the row that is lent to every ask: it holds 64 groups of four dimensions
abbrev pub replay_row : ℕ
replay_row = 389
