-- Groups and replies as text. A line ends with a newline, 10. Assumes nothing: these are definitions.
use Rattle.std.specs.Prelude.{ℕ, List, [], ◌∷◌, ◌++◌, codes, decimal}
use Rattle.std.specs.List.{flat_map}
use Rattle.hierarchy.specs.Dimensions.{Row}
use Rattle.replies.specs.Replies.{reply_text}
use Rattle.replies.specs.declared.Reply.{Reply}
use Rattle.totals.specs.Tables.{Cell, Table}

-- numbers with a space between
abbrev pub spaced : ℕ → List ℕ
spaced x = codes " " ++ decimal x

abbrev pub place_text : Row → List ℕ
place_text [] = []
place_text (x ∷ xs) = decimal x ++ flat_map spaced xs

-- a group: its place, how many facts, their sum
abbrev pub line_text : Cell → List ℕ
line_text g = place_text g.place ++ (codes ": " ++ (decimal g.measure.count ++ (codes " " ++ (decimal g.measure.sum ++ (10 ∷ [])))))

abbrev pub table_text : Table → List ℕ
table_text t = flat_map line_text t

-- a reply is a line of its own
abbrev pub reply_line : Reply → List ℕ
reply_line r = reply_text r ++ (10 ∷ [])
