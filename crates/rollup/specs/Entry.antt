-- Lent rows, as the public calls take them: what is refused, and why first. Assumes nothing: these are definitions.
use Rattle.std.specs.Prelude.{◌≡◌, ℕ, zero, suc, Bool, cond, ◌&&◌, ◌||◌, List, length, is_some, Some, None, Option, nat_le, nat_lt, slice_index}
use Rattle.std.specs.Option.{option_map, option_or, unwrap_or}
use Rattle.hierarchy.specs.Dimensions.{Dims, Row}
use Rattle.hierarchy.specs.Levels.{levels_in_dimension}
use Rattle.hierarchy.specs.Facts.{Entry}
use Rattle.hierarchy.specs.Reading.{dims_in, dims_refusal, first_missing}
use Rattle.replies.specs.declared.Refusal.{Refusal}
use Rattle.replies.specs.declared.Refusal.TheVariants.{BadTable, BadTableLevel, BadGroup, NoLevel, NoRoom}
use Rattle.replies.specs.declared.Reply.{Reply}
use Rattle.replies.specs.declared.Reply.TheVariants.{Shown, Refused}
use Rattle.totals.specs.Tables.{Table, table}
use Rattle.summary.specs.Memory.{start, count_in, levels_in, table_in, rolled_in, row_over, bad}

-- the first of k numbers, counted from i, that passes a test
unfoldable pub first_from : (ℕ → Bool) → ℕ → ℕ → Option ℕ
first_from f i zero = None
first_from f i (suc k) = cond (f i) (Some i) (first_from f (suc i) k)

-- the first group that is empty, too large, or does not come after the one before
abbrev pub first_bad_group : Table → Option ℕ
first_bad_group t = first_from (bad t) 0 (length t)

-- the count of a row is within the room, and its groups lie in the row
abbrev pub has_groups : ℕ → ℕ → Row → Bool
has_groups w room xs = nat_le (count_in w xs) room && nat_le (start w (count_in w xs)) (length xs)

-- why a row is no table over these dimensions, with at most so many groups: it is too short for its levels and its count; a level is
-- not there; its count is too large for the room or the row; a group is none
unfoldable pub table_refusal : Dims → ℕ → Row → Option Refusal
table_refusal ss room xs =
    cond (nat_lt (length ss) (length xs))
    (option_or (option_map BadTableLevel (first_missing 0 ss xs))
    (cond (has_groups (length ss) room xs) (option_map BadGroup (first_bad_group (table_in (length ss) xs))) (Some (BadTable (length ss)))))
    (Some (BadTable (length ss)))

-- a table at levels ls cannot be shown at ms, in dimension i: the level is missing, not there, or finer than the table's
abbrev pub out_of_reach : Dims → Row → Row → ℕ → Bool
out_of_reach ss ls ms i = nat_le (length ms) i || (nat_le (levels_in_dimension ss i) (slice_index ms i) || nat_lt (slice_index ms i) (slice_index ls i))

unfoldable pub reach_refusal : Dims → Row → Row → Option Refusal
reach_refusal ss ls ms = option_map NoLevel (first_from (out_of_reach ss ls ms) 0 (length ss))

-- a row of length n has no room for as many groups as another has
unfoldable pub room_refusal : ℕ → Row → ℕ → Option Refusal
room_refusal w from n = cond (nat_le (start w (count_in w from)) n) None (Some (NoRoom n))

-- no lent table has more groups
abbrev pub most_groups : ℕ
most_groups = 4096

-- why a table is not rolled up to levels into a row of length n
unfoldable pub roll_refusal : Row → Row → Row → ℕ → Option Refusal
roll_refusal sides from to n =
    option_or (dims_refusal sides)
    (option_or (table_refusal (dims_in sides) most_groups from) (option_or (reach_refusal (dims_in sides) from to) (room_refusal (length (dims_in sides)) from n)))

-- a row in which a table rolled up to levels was written: the levels, the count, the groups, and behind them what was there
abbrev pub rolled_over : Dims → Row → Row → List ℕ → List ℕ
rolled_over ss from to out = row_over (length ss) (levels_in (length ss) to) (rolled_in (length ss) ss (levels_in (length ss) to) from) out

-- the reply tells the refusal, or how many groups were looked at; a refusal leaves the row as it was
abbrev pub roll_reply : Row → Row → Row → ℕ → Reply
roll_reply sides from to n = unwrap_or (option_map Refused (roll_refusal sides from to n)) (Shown (count_in (length (dims_in sides)) from))

abbrev pub roll_out : Row → Row → Row → List ℕ → List ℕ
roll_out sides from to out = cond (is_some (roll_refusal sides from to (length out))) out (rolled_over (dims_in sides) from to out)

-- where nothing is refused, a row that holds the table of facts at its levels is rolled up to the table of these facts at the others
abbrev pub ShownRight : Type 0
ShownRight =
    (sides from to out : Row) (es : List Entry)
    → roll_refusal sides from to (length out) ≡ None
    → table_in (length (dims_in sides)) from ≡ table (dims_in sides) (levels_in (length (dims_in sides)) from) es
    → roll_out sides from to out
    ≡ row_over (length (dims_in sides)) (levels_in (length (dims_in sides)) to) (table (dims_in sides) (levels_in (length (dims_in sides)) to) es) out
