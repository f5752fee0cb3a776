-- What is refused before anything is chosen, and the facts that are read. Assumes nothing: these are definitions.
use Rattle.std.specs.Prelude.{◌≡◌, ℕ, zero, suc, ◌+◌, ◌/◌, ◌%◌, Bool, cond, ◌||◌, List, length, take, drop, Some, None, Option, ◌==◌, nat_lt}
use Rattle.hierarchy.specs.Dimensions.{Dims, Row}
use Rattle.hierarchy.specs.Levels.{finest}
use Rattle.hierarchy.specs.Facts.{Entry}
use Rattle.hierarchy.specs.Parts.{parts}
use Rattle.hierarchy.specs.Reading.{dims_in, dims_refusal, fact_refusal, entry_in}
use Rattle.replies.specs.declared.Refusal.{Refusal}
use Rattle.replies.specs.declared.Refusal.TheVariants.{LedgerFull, BadChoice, TooManyGroups}
use Rattle.totals.specs.Cost.{size}
use Rattle.totals.specs.Tables.{table}
use Rattle.summary.specs.Memory.{levels_in, table_in, Sound}
use Rattle.selection.specs.declared.fault.Fault.{Fault}
use Rattle.selection.specs.declared.fault.Fault.TheVariants.{Refused, NoMemory}

-- the first refusal of two
abbrev pub first_of : Option Refusal → Option Refusal → Option Refusal
first_of None b = b
first_of (Some a) b = Some a

abbrev pub refused_if : Bool → Refusal → Option Refusal
refused_if b r = cond b (Some r) None

-- facts lie one behind the other, each as long as there are dimensions and an amount; the last may be cut short
abbrev pub fact_count : Dims → Row → ℕ
fact_count ss xs = length xs / (length ss + 1) + cond (length xs % (length ss + 1) == 0) 0 1

abbrev pub facts_in : Dims → Row → List Entry
facts_in ss xs = parts (entry_in ss) (length ss + 1) (fact_count ss xs) xs

-- the first fault of the first of k facts that is none
unfoldable pub facts_refusal : Dims → ℕ → Row → Option Refusal
facts_refusal ss zero xs = None
facts_refusal ss (suc k) xs = first_of (fact_refusal ss (take (length ss + 1) xs)) (facts_refusal ss k (drop (length ss + 1) xs))

-- more facts than the ledger's room; none to choose, or more than may be kept
abbrev pub limits_refusal : ℕ → ℕ → Option Refusal
limits_refusal facts n = first_of (refused_if (nat_lt 65536 facts) (LedgerFull 65536)) (refused_if (n == 0 || nat_lt 15 n) (BadChoice n))

-- more groups than the finest table's room
abbrev pub groups_refusal : ℕ → Option Refusal
groups_refusal groups = refused_if (nat_lt 4096 groups) (TooManyGroups groups)

-- all that is refused over dimensions, and over what they are read from
abbrev pub over_refusal : Dims → ℕ → Row → Option Refusal
over_refusal ss n xs =
    first_of (facts_refusal ss (fact_count ss xs) xs)
    (first_of (limits_refusal (fact_count ss xs) n) (groups_refusal (size ss (facts_in ss xs) (finest ss))))

abbrev pub choice_refusal : Row → ℕ → Row → Option Refusal
choice_refusal sides n xs = first_of (dims_refusal sides) (over_refusal (dims_in sides) n xs)

-- what a fault tells: what was refused; memory may be short at any time
abbrev pub Told : Option Refusal → Fault → Type 0
Told o (Refused r) = o ≡ Some r
Told o NoMemory = Unit {0}

-- a row that holds the table of all facts at the finest levels
pub record Gathered (ss : Dims) (xs row : List ℕ) : Type 0 where
  pub sound : Sound (length ss) row
  pub levels : levels_in (length ss) row ≡ finest ss
  pub facts : table_in (length ss) row ≡ table ss (finest ss) (facts_in ss xs)
