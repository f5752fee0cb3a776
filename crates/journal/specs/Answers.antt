-- What every answer in a day's text is: the totals of the facts that came before it and did not go. Assumes nothing.
use Rattle.std.specs.Prelude.{◌≡◌, ℕ, ◌+◌, ◌<◌, ◌≤◌, true, List, ◌∷◌, ◌++◌, length, None, slice_index_or}
use Rattle.hierarchy.specs.Dimensions.{Dims, Row}
use Rattle.hierarchy.specs.Facts.{Entry, copies}
use Rattle.hierarchy.specs.Levels.{no_coarser}
use Rattle.hierarchy.specs.Reading.{dims_refusal, levels_in, levels_refusal}
use Rattle.replies.specs.declared.Reply.TheVariants.{Shown}
use Rattle.totals.specs.Cost.{size}
use Rattle.totals.specs.Tables.{table}
use Rattle.model.specs.House.{Kept, Limits, Deed, ask, empty}
use Rattle.model.specs.Promises.{reached, came, went}
use Rattle.formats.specs.Bytes.{Bytes, sides_of}
use Rattle.formats.specs.Text.{table_text, reply_line}
use Rattle.journal.specs.Days.{day_dims, day_deeds}
use Rattle.journal.specs.Replies.{replies}

-- a question at levels xs between other deeds, as a text has it
pub record Answered (ss : Dims) (lim : Limits) (before after : List Deed) (xs : Row) (text : List ℕ) : Type 0 where
  pub facts : List Entry
  pub work : ℕ
  -- for every fact: how often it counts, and how often it went before, is how often it came before
  pub balance : (e : Entry) → copies e facts + went ss lim e (empty ss) before ≡ came ss lim e (empty ss) before
  -- behind the answers to the deeds before it, the text goes on with the table of these facts, group by group, and the work
  pub printed : text
      ≡ replies ss lim (empty ss) before
      ++ ((table_text (table ss (levels_in ss xs) facts) ++ reply_line (Shown work)) ++ replies ss lim (reached ss lim before) after)
  -- the work is the size of a table that is then kept and no coarser, and no more than that of any
  pub least : (i : ℕ) (d : Kept) → i < length (reached ss lim before).kept
      → no_coarser ss (slice_index_or (reached ss lim before).kept i d).levels (levels_in ss xs) ≡ true
      → work ≤ size ss facts (slice_index_or (reached ss lim before).kept i d).levels
  pub attained : (d : Kept) → (i : ℕ) × (i < length (reached ss lim before).kept)
      × (no_coarser ss (slice_index_or (reached ss lim before).kept i d).levels (levels_in ss xs) ≡ true)
      × (work ≡ size ss facts (slice_index_or (reached ss lim before).kept i d).levels)

-- a text in which every question of a file is answered so: its dimensions are read, and the question's levels are there
abbrev pub AnswersRight : Limits → ℕ → Bytes → List ℕ → Type 0
AnswersRight lim n bs text =
    (before after : List Deed) (xs : Row) → dims_refusal (sides_of bs) ≡ None
    → day_deeds n bs ≡ before ++ (ask xs n ∷ after) → levels_refusal (day_dims bs) xs ≡ None
    → Answered (day_dims bs) lim before after xs text
