use Rattle.std.proofs.Common.{◌≡◌, length, arith, rules}
use Rattle.hierarchy.proofs.Widths.{dims_few}
use Rattle.tables.specs.Memory.{sides, wide}
use Rattle.tables.proofs.Deeds.{part_place, levels_there}
use Rattle.tables.proofs.layout.TableLayout.place_in.Goals as goal

pub returns : goal.returns
returns c =
    let l = c.args.self.now in
    let four : length c.args.fact.place ≡ 4 = search rules in
    part_place (sides l) c.args.part.now c.args.fact.place c.levels_in.result.at c.place_at.result (dims_few l.dims)
    (levels_there (wide l) c.args.part.now c.requires) (omega (arith, dims_few l.dims)) c.levels_in.ensures c.place_at.ensures
