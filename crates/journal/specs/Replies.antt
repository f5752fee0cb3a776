-- What a day says: the answers to its deeds, in order. Assumes nothing: these are definitions.
use Rattle.std.specs.Prelude.{ℕ, List, [], ◌∷◌, ◌++◌}
use Rattle.hierarchy.specs.Dimensions.{Dims}
use Rattle.replies.specs.declared.Reply.TheVariants.{Done, Shown, Refused}
use Rattle.model.specs.House.{House, Limits, Deed, Told, done, shown, refused, step, told}
use Rattle.formats.specs.Text.{table_text, reply_line}

-- an answer: the groups, if there are any to be shown, and the reply
abbrev pub told_text : Told → List ℕ
told_text done = reply_line Done
told_text (shown t n) = table_text t ++ reply_line (Shown n)
told_text (refused r) = reply_line (Refused r)

-- the answers to deeds in order
unfoldable pub replies : Dims → Limits → House → List Deed → List ℕ
replies ss lim h [] = []
replies ss lim h (d ∷ ds) = told_text (told ss lim h d) ++ replies ss lim (step ss lim h d) ds
