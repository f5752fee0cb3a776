use Rattle.std.proofs.Common.{◌≡◌, true, false, take, rules, tests}
use Rattle.std.proofs.lemmas.Iterator.{first_from_Range}
use Rattle.hierarchy.specs.Levels.{same}
use Rattle.hierarchy.specs.Views.{levels_of}
use Rattle.tables.specs.Memory.{wide, part_size, part}
use Rattle.tables.proofs.Scans.{place_found}
use Rattle.tables.proofs.layout.TableLayout.place_of.Goals as goal

pub returns : goal.returns
returns c =
    let l = c.args.self.now in
    let xs = c.args.tables.now in
    let ls = levels_of (wide l) c.args.levels in
    place_found (wide l) (part_size l) xs ls c.kept.result c.find.result c.kept.ensures
    (first_from_Range _ _ _ c.find.result (λ i. same ls (take (wide l) (part (part_size l) i xs)) ≡ true)
    (λ i. same ls (take (wide l) (part (part_size l) i xs)) ≡ false) c.find.ensures.ran (λ x q k. search (rules, tests)) (λ x q k. search (rules, tests)))
