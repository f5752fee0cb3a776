-- How a warehouse lies in memory: the book of facts, and the tables: how many are kept, and then parts, each with the room of one
-- whole table. Assumes nothing: these are definitions.
use Rattle.std.specs.Prelude.{◌≡◌, ℕ, ◌+◌, ◌*◌, ◌<◌, List, length, slice_index}
use Rattle.hierarchy.specs.Dimensions.{Dims, Row}
use Rattle.replies.specs.declared.Refusal.{Refusal}
use Rattle.replies.specs.declared.Reply.{Reply}
use Rattle.replies.specs.declared.Reply.TheVariants.{Done, Shown, Refused}
use Rattle.ledger.specs.Book.{Holds, facts_in}
use Rattle.ledger.specs.Book.{start as start_in_book}
use Rattle.summary.specs.Memory.{row_over}
use Rattle.summary.specs.Memory as summary
use Rattle.model.specs.House.{House, Limits, Deed, Told, done, shown, refused, step, told}
use Rattle.model.specs.Promises.{Valid}
use Rattle.tables.specs.Memory.{part, tables_in}
use Rattle.tables.specs.Memory as tables
use Rattle.storage.specs.declared.layout.Layout.{Layout}

-- what a layout is for: dimensions, and room
abbrev pub sides : Layout → Dims
sides l = tables.sides l.tables

abbrev pub wide : Layout → ℕ
wide l = length (sides l)

abbrev pub limits : Layout → Limits
limits l = record { facts = l.book.room; groups = l.tables.groups }

-- how many numbers the book takes
abbrev pub book_size : Layout → ℕ
book_size l = start_in_book l.book.width l.book.room

-- how many numbers a part takes
abbrev pub part_size : Layout → ℕ
part_size l = tables.part_size l.tables

abbrev pub house_in : Layout → List ℕ → List ℕ → House
house_in l book tables = record { facts = facts_in (wide l) book; kept = tables_in (wide l) (part_size l) tables }

-- memory that holds a warehouse: a book, sixteen parts of which those that are kept are tables, and together a valid warehouse
pub record Memory (l : Layout) (book tables : List ℕ) : Type 0 where
  pub booked : Holds (wide l) l.book.room book
  pub long : length tables ≡ 1 + part_size l * 16
  pub sound : (i : ℕ) → i < slice_index tables 0 → summary.Sound (wide l) (part (part_size l) i tables)
  pub valid : Valid (sides l) (limits l) (house_in l book tables)

-- what the code replies where the model tells
abbrev pub reply_of : Told → Reply
reply_of done = Done
reply_of (shown t n) = Shown n
reply_of (refused r) = Refused r

-- a deed is one step: the reply is what is told, memory then holds the warehouse after the step, and a refusal leaves all as it was
pub record Does (l : Layout) (d : Deed) (r : Reply) (book tables book₁ tables₁ : List ℕ) : Type 0 where
  pub reply : r ≡ reply_of (told (sides l) (limits l) (house_in l book tables) d)
  pub house : house_in l book₁ tables₁ ≡ step (sides l) (limits l) (house_in l book tables) d
  pub memory : Memory l book₁ tables₁
  pub untouched : (x : Refusal) → r ≡ Refused x → (book₁ ≡ book) × (tables₁ ≡ tables)

-- the lent row of a question: the levels, the number of groups and the groups of the answer, and behind them what it held
abbrev pub row_after : Row → Told → List ℕ → List ℕ
row_after ls done out = out
row_after ls (shown t n) out = row_over (length ls) ls t out
row_after ls (refused r) out = out
