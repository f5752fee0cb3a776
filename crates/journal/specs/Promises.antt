-- What reading a file promises. Each is a statement; a function's contract asks for its proof. Assumes nothing.
use Rattle.std.specs.Prelude.{◌≡◌, ℕ, ◌+◌, ◌*◌, ◌^◌, ◌<◌, ◌≤◌, true, false, List, ◌++◌, length, None, slice_index, slice_index_or}
use Rattle.hierarchy.specs.Dimensions.{Row}
use Rattle.hierarchy.specs.Reading.{dims_in, dims_refusal}
use Rattle.model.specs.House.{Limits, Deed, insert, delete, keep, drop_table, ask, empty}
use Rattle.formats.specs.Bytes.{Bytes, sides_of, behind_sides}
use Rattle.journal.specs.Deeds.{is_deed, deeds_in, is_whole, deeds_out}
use Rattle.journal.specs.Replies.{replies}
use Rattle.journal.specs.Days.{day_text, day_whole, day_out}

-- numbers that four bytes hold
abbrev pub Small : Row → Type 0
Small xs = (i : ℕ) → i < length xs → slice_index xs i < 2 ^ 32

-- a deed that a file can hold: it has as many numbers as its kind asks for, and an ask is lent the row that every ask is lent
abbrev pub Writable : ℕ → ℕ → Deed → Type 0
Writable w n (insert xs) = (length xs ≡ w + 1) × Small xs
Writable w n (delete xs) = (length xs ≡ w + 1) × Small xs
Writable w n (keep xs) = (length xs ≡ w) × Small xs
Writable w n (drop_table xs) = (length xs ≡ w) × Small xs
Writable w n (ask xs m) = (length xs ≡ w) × Small xs × (m ≡ n)

abbrev pub AllWritable : ℕ → ℕ → List Deed → Type 0
AllWritable w n ds = (i : ℕ) (d : Deed) → i < length ds → Writable w n (slice_index_or ds i d)

-- a row of dimensions that a file can hold: no more numbers than the count asks for
abbrev pub Sides : Row → Type 0
Sides xs = (slice_index xs 0 ≤ 4) × (length xs ≡ 1 + 5 * slice_index xs 0) × Small xs

-- a day that is written and read again is the same day
abbrev pub ReadBack : Type 0
ReadBack =
    (w n : ℕ) (xs : Row) (ds : List Deed) → Sides xs → AllWritable w n ds
    → (sides_of (day_out xs ds) ≡ xs) × (deeds_in w n (behind_sides (day_out xs ds)) ≡ ds) × (is_whole w (behind_sides (day_out xs ds)) ≡ true)

-- and its text is the answers to these deeds
abbrev pub ToldBack : Type 0
ToldBack =
    (lim : Limits) (n : ℕ) (xs : Row) (ds : List Deed) → Sides xs → dims_refusal xs ≡ None → AllWritable (length (dims_in xs)) n ds
    → (day_text lim n (day_out xs ds) ≡ replies (dims_in xs) lim (empty (dims_in xs)) ds) × (day_whole (day_out xs ds) ≡ true)

-- behind deeds that are there, bytes that begin with none end the run: the deeds before them stand, and the day is not whole
abbrev pub BrokenOff : Type 0
BrokenOff =
    (w n : ℕ) (ds : List Deed) (rest : Bytes) → AllWritable w n ds → is_deed w rest ≡ false → 0 < length rest
    → (deeds_in w n (deeds_out ds ++ rest) ≡ ds) × (is_whole w (deeds_out ds ++ rest) ≡ false)

-- nothing that is read is lost: bytes that are whole deeds are these deeds, written
abbrev pub WrittenBack : Type 0
WrittenBack =
    (w n : ℕ) (bs : Bytes) → ((i : ℕ) → i < length bs → slice_index bs i < 256) → is_whole w bs ≡ true → deeds_out (deeds_in w n bs) ≡ bs
