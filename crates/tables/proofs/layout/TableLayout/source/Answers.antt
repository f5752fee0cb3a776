use Rattle.std.proofs.Common.{◌-◌, ◌∙◌, refl, arith, rules, tests}
use Rattle.std.proofs.lemmas.Iterator.{YieldsList-from_range}
use Rattle.std.proofs.lemmas.Iterator.Consumers.{fold_from_yields_List}
use Rattle.hierarchy.specs.Views.{levels_of}
use Rattle.tables.specs.Memory.{sides, wide, part_size}
use Rattle.tables.proofs.Scans.{source_start, better_of, source_folded}
use Rattle.tables.proofs.layout.TableLayout.source.Goals as goal

pub returns : goal.returns
returns c =
    let l = c.args.self.now in
    let xs = c.args.tables.now in
    let ls = levels_of (wide l) c.args.levels in
    let folded = fold_from_yields_List _ (better_of (wide l) (part_size l) xs (sides l) ls) 0 c.fold.result c.fold.ensures.ran
    (YieldsList-from_range 1 c.kept.result (c.kept.result - 1) refl refl) (λ a x b q k. search (rules, tests)) in
    let r = source_folded (wide l) (part_size l) xs (sides l) ls (c.kept.result - 1) 1 0 (omega (arith, c.kept.ensures, c.requires.some)) c.requires.some in
    rw folded (r.0, r.1 ∙ source_start (wide l) (part_size l) xs (sides l) ls c.requires.some)
