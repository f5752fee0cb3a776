-- Files worked out by hand. Assumes nothing.
use Rattle.std.specs.Prelude.{◌≡◌, ℕ, false, List, [], ◌∷◌, ◌++◌, codes}
use Rattle.hierarchy.specs.Dimensions.{Row}
use Rattle.model.specs.House.{insert, delete, keep, ask}
use Rattle.model.specs.Examples.{room, sales}
use Rattle.formats.specs.Bytes.{Bytes}
use Rattle.journal.specs.Deeds.{deeds_in, is_whole}
use Rattle.journal.specs.Days.{day_text, day_whole, day_out}

-- a fact with one number and its amount, levels of one dimension, and a deed that is cut short
abbrev pub short_file : Bytes
short_file = 0 ∷ 1 ∷ 1 ∷ 0 ∷ 0 ∷ 5 ∷ 0 ∷ 0 ∷ 0 ∷ 2 ∷ 1 ∷ 0 ∷ 0 ∷ 0 ∷ 4 ∷ 1 ∷ 0 ∷ []

-- branches, of which two make a town and two towns a county, and days, of which seven make a week
abbrev pub two_dimensions : Row
two_dimensions = 2 ∷ 2 ∷ 2 ∷ 2 ∷ 0 ∷ 0 ∷ 1 ∷ 7 ∷ 0 ∷ 0 ∷ 0 ∷ []

-- six sales, totals by town and week, and a sale taken back that there never was; then a byte that is no deed
abbrev pub market_day : Bytes
market_day = day_out two_dimensions (sales ++ (ask (1 ∷ 1 ∷ []) 259 ∷ delete (1 ∷ 3 ∷ 9 ∷ []) ∷ [])) ++ (9 ∷ [])

abbrev line : List ℕ → List ℕ
line text = text ++ (10 ∷ [])

abbrev pub Worked : Type 0
Worked =
    (deeds_in 1 259 short_file ≡ insert (257 ∷ 5 ∷ []) ∷ keep (1 ∷ []) ∷ []) × (is_whole 1 short_file ≡ false)
    × (day_text room 259 market_day
    ≡ line (codes "done") ++ (line (codes "done") ++ (line (codes "done") ++ (line (codes "done") ++ (line (codes "done") ++ (line (codes "done")
    ++ (line (codes "0 0: 3 11") ++ (line (codes "1 1: 1 1") ++ (line (codes "2 1: 2 10") ++ (line (codes "work 5") ++ line (codes "refused 6 at 0")))))))))))
    × (day_whole market_day ≡ false)
    × (day_text room 259 (1 ∷ 0 ∷ 0 ∷ []) ≡ line (codes "refused 1 at 4"))
    × (day_text room 259 (5 ∷ 0 ∷ 0 ∷ 0 ∷ 1 ∷ []) ≡ line (codes "refused 1 at 4"))
