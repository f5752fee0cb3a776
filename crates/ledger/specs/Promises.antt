-- What a book promises of the facts in it. Each is a statement; a function's contract asks for its proof. Assumes nothing.
use Rattle.std.specs.Prelude.{◌≡◌, ◌+◌, ◌<◌, cond, List, ◌∷◌}
use Rattle.hierarchy.specs.Facts.{Entry, same_fact, copies, without}

-- after an insert there is one more copy of its fact, and of every other there are as many as before
abbrev pub InsertCounts : Type 0
InsertCounts = (d e : Entry) (es : List Entry) → copies d (e ∷ es) ≡ copies d es + cond (same_fact d e) 1 0

-- after the removal of a fact that is there, there is one copy fewer of it, and of every other there are as many as before
abbrev pub RemovalCounts : Type 0
RemovalCounts = (d e : Entry) (es : List Entry) → 0 < copies e es → copies d (without e es) + cond (same_fact d e) 1 0 ≡ copies d es

-- what was inserted last is removed first
abbrev pub InsertUndone : Type 0
InsertUndone = (e : Entry) (es : List Entry) → without e (e ∷ es) ≡ es
