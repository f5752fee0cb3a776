-- Facts and tables by what is counted in them, place by place. Assumes nothing: these are definitions.
use Rattle.std.specs.Prelude.{cond, List, [], ◌∷◌}
use Rattle.hierarchy.specs.Dimensions.{Dims, Row}
use Rattle.hierarchy.specs.Levels.{same}
use Rattle.hierarchy.specs.Facts.{Entry}
use Rattle.hierarchy.specs.Places.{place_at}
use Rattle.totals.specs.Tables.{Measure, Table, one, join}

abbrev pub nothing : Measure
nothing = record { count = 0; sum = 0 }

-- what a table has at a place
unfoldable pub at : Row → Table → Measure
at p [] = nothing
at p (g ∷ gs) = cond (same p g.place) (join g.measure (at p gs)) (at p gs)

-- what the facts are that belong to a place at levels
unfoldable pub belonging : Dims → Row → Row → List Entry → Measure
belonging ss ls p [] = nothing
belonging ss ls p (e ∷ es) = cond (same p (place_at ss ls e.place)) (join (one e.amount) (belonging ss ls p es)) (belonging ss ls p es)

-- all groups together, and all facts together
unfoldable pub total : Table → Measure
total [] = nothing
total (g ∷ gs) = join g.measure (total gs)

unfoldable pub all_facts : List Entry → Measure
all_facts [] = nothing
all_facts (e ∷ es) = join (one e.amount) (all_facts es)
