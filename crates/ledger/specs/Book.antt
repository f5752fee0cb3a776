-- How a book of facts lies in memory: how many facts there are; then the facts, one behind the other, in the order in which they
-- came. Behind them memory may hold anything. w is the number of dimensions. Assumes nothing: these are definitions.
use Rattle.std.specs.Prelude.{◌≡◌, ℕ, ◌+◌, ◌*◌, ◌<◌, ◌≤◌, true, false, List, [], ◌∷◌, ◌++◌, reverse, length, take, drop, slice_index, slice_index_or}
use Rattle.std.specs.List.{flat_map}
use Rattle.hierarchy.specs.Facts.{Entry, same_fact}
use Rattle.hierarchy.specs.Parts.{parts}

-- how many numbers a fact takes: its place and its amount
abbrev pub stride : ℕ → ℕ
stride w = w + 1

-- where the i-th fact starts
abbrev pub start : ℕ → ℕ → ℕ
start w i = 1 + stride w * i

-- one fact, read and written
abbrev pub entry_in : ℕ → List ℕ → Entry
entry_in w xs = record { place = take w xs; amount = slice_index xs w }

abbrev pub entry_out : Entry → List ℕ
entry_out e = e.place ++ (e.amount ∷ [])

-- what a row of numbers holds: how many facts, and these in the order in which they came
abbrev pub count_in : List ℕ → ℕ
count_in xs = slice_index xs 0

abbrev pub in_order : ℕ → List ℕ → List Entry
in_order w xs = parts (entry_in w) (stride w) (count_in xs) (drop 1 xs)

-- the facts, the newest first
abbrev pub facts_in : ℕ → List ℕ → List Entry
facts_in w xs = reverse (in_order w xs)

-- a row that is a book: no more facts than there is room for, and the row has the numbers for that room
pub record Holds (w room : ℕ) (xs : List ℕ) : Type 0 where
  pub fits : count_in xs ≤ room
  pub long : start w room ≤ length xs

-- a row whose facts, the newest first, are now these: all that lies behind them is as it was
abbrev pub holding : ℕ → List Entry → List ℕ → List ℕ
holding w es xs = length es ∷ (flat_map entry_out (reverse es) ++ drop (start w (length es)) xs)

-- where there is none
abbrev pub nothing : Entry
nothing = record { place = []; amount = 0 }

-- the i-th fact of a list in order equals e, and no later one does
abbrev pub Newest : Entry → List Entry → ℕ → Type 0
Newest e t i =
    (i < length t) × (same_fact e (slice_index_or t i nothing) ≡ true) × ((j : ℕ) → i < j → j < length t → same_fact e (slice_index_or t j nothing) ≡ false)
