-- Refusals by number and place, and replies as text. Assumes nothing: these are definitions.
use Rattle.std.specs.Prelude.{ℕ, ◌+◌, List, ◌++◌, Ok, Err, Result, codes, decimal}
use Rattle.replies.specs.declared.Refusal.{Refusal}
use Rattle.replies.specs.declared.Refusal.TheVariants.{NoDimensions, BadDimension, BadTable, BadTableLevel, BadGroup, NoLevel, NoRoom, BadFact, NoSuchFact, AlreadyKept, FinestStays, NotKept, LedgerFull, TableFull, AllKept, BadChoice, TooManyGroups}
use Rattle.replies.specs.declared.Reply.{Reply}
use Rattle.replies.specs.declared.Reply.TheVariants.{Done, Shown, Refused}

-- the number under which a reason is told
abbrev pub number : Refusal → ℕ
number NoDimensions = 1
number (BadDimension i) = 1
number (BadTable w) = 2
number (BadTableLevel i) = 2
number (BadGroup g) = 2
number (NoLevel i) = 3
number (NoRoom n) = 4
number (BadFact i) = 5
number NoSuchFact = 6
number (AlreadyKept t) = 7
number FinestStays = 7
number NotKept = 7
number (LedgerFull n) = 8
number (TableFull t) = 8
number AllKept = 9
number (BadChoice n) = 10
number (TooManyGroups n) = 10

-- the place at which it is told; where a reason has no place of its own, a number that no place has
abbrev pub place : Refusal → ℕ
place NoDimensions = 4
place (BadDimension i) = i
place (BadTable w) = w
place (BadTableLevel i) = i
place (BadGroup g) = 16 + g
place (NoLevel i) = i
place (NoRoom n) = n
place (BadFact i) = i
place NoSuchFact = 0
place (AlreadyKept t) = t
place FinestStays = 0
place NotKept = 16
place (LedgerFull n) = n
place (TableFull t) = t
place AllKept = 16
place (BadChoice n) = n
place (TooManyGroups n) = n

-- as it is printed
abbrev pub refusal_text : Refusal → List ℕ
refusal_text r = codes "refused " ++ (decimal (number r) ++ (codes " at " ++ decimal (place r)))

abbrev pub reply_text : Reply → List ℕ
reply_text Done = codes "done"
reply_text (Shown n) = codes "work " ++ decimal n
reply_text (Refused r) = refusal_text r

-- what is told of a deed, and of a question
abbrev pub of_deed : Result Unit Refusal → Reply
of_deed (Ok done) = Done
of_deed (Err r) = Refused r

abbrev pub of_question : Result ℕ Refusal → Reply
of_question (Ok work) = Shown work
of_question (Err r) = Refused r
