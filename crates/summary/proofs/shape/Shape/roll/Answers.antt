use Rattle.std.proofs.Common.{◌≡◌, ◌+◌, true, [], ◌∷◌, ◌++◌, length, take, sym, ◌∙◌, arith, length-append, length-take, rules}
use Rattle.std.proofs.lemmas.List.{take_all}
use Rattle.hierarchy.specs.Views.{dims_of}
use Rattle.totals.specs.Tables.{rolled}
use Rattle.summary.specs.Memory.{table_in, row_over, holding, put_in}
use Rattle.totals.proofs.Put.{rolled_none, rolled_in_order, rolled_none_empty}
use Rattle.summary.proofs.Holdings.{sound_row}
use Rattle.summary.proofs.Soundness.{wide_table}
use Rattle.summary.proofs.Rolls.{begun, ended, wide_rolled}
use Rattle.summary.proofs.Raised.{turn, begun_levels}
use Rattle.summary.proofs.Rows.{table_length}
use Rattle.summary.proofs.Walks.{first_group, no_group, next_group}
use Rattle.summary.proofs.shape.Shape.roll.Goals as goal

pub loop-part-init : goal.loop-part-init
loop-part-init c =
    let w = c.args.self.width in
    let four : length c.args.levels.at ≡ 4 = search rules in
    let long : length (take w c.args.levels.at) ≡ w = omega (arith, length-take w c.args.levels.at) in
    let h = begun w (take w c.args.levels.at) c.args.to.now c.begin.new.row long (omega arith) c.begin.ensures in
    let e = rolled_none (dims_of c.args.dims.now) (take w c.args.from.now) (take w c.begin.new.row) in
    let empty : c.begin.new.row ≡ holding w (rolled (dims_of c.args.dims.now) (take w c.args.from.now) (take w c.begin.new.row) []) c.begin.new.row = cc in
    let chunks = c.chunks_exact-part-items.ensures in
    let rest = first_group w c.args.from.now _ (chunks.rest ∙ c.groups.ensures) in
    rw c.into_iter-part-iterator.ensures.into_iter_gives (empty, omega arith, chunks.size ∙ c.stride.ensures, rest)

pub append-requires : goal.append-requires
append-requires c =
    let w = c.args.self.width in
    let from = c.args.from.now in
    let four : length c.args.levels.at ≡ 4 = search rules in
    let four-place : length c.read.result.place ≡ 4 = search rules in
    let inv = c.loop-part.invariant in
    let step = c.in-Some.ensures.steps in
    let g = next_group w (length c.loop-part.yielded) _ from _ _ _ c.requires.sound.whole inv.3 inv.2 step.1.0 step.1.1 in
    let r = turn w (dims_of c.args.dims.now) from c.args.to.now c.begin.new.row c.loop-part.to c.front.result.at c.args.levels.at c.ascent-ascent.result c.read.result c.raised.result (length c.loop-part.yielded) c.requires.width c.args.self.most c.requires.sound four c.requires.room c.requires.count_fits c.requires.sum_fits c.begin.ensures c.front.ensures c.ascent-ascent.ensures (c.read.ensures.cell ∙ g.1) four-place c.raised.ensures g.0 inv.0 in
    record { sound = r.0; fits = r.1 }

pub loop-part-preserved : goal.loop-part-preserved
loop-part-preserved c =
    let w = c.args.self.width in
    let from = c.args.from.now in
    let four : length c.args.levels.at ≡ 4 = search rules in
    let four-place : length c.read.result.place ≡ 4 = search rules in
    let inv = c.loop-part.invariant in
    let step = c.in-Some.ensures.steps in
    let g = next_group w (length c.loop-part.yielded) _ from _ _ _ c.requires.sound.whole inv.3 inv.2 step.1.0 step.1.1 in
    let r = turn w (dims_of c.args.dims.now) from c.args.to.now c.begin.new.row c.loop-part.to c.front.result.at c.args.levels.at c.ascent-ascent.result c.read.result c.raised.result (length c.loop-part.yielded) c.requires.width c.args.self.most c.requires.sound four c.requires.room c.requires.count_fits c.requires.sum_fits c.begin.ensures c.front.ensures c.ascent-ascent.ensures (c.read.ensures.cell ∙ g.1) four-place c.raised.ensures g.0 inv.0 in
    let told : c.append.result ≡ true = c.append.ensures.told ∙ r.2 in
    let after : c.append.new.row ≡ holding w (put_in w c.raised.result c.loop-part.to) c.loop-part.to = rw told at c.append.ensures.after in
    let more : length (c.loop-part.yielded ++ (c.in-Some.part ∷ [])) ≡ length c.loop-part.yielded + 1 = omega (arith, length-append c.loop-part.yielded (c.in-Some.part ∷ [])) in
    rw more (after ∙ r.3, omega (arith, g.0), step.0 ∙ inv.2, g.2)

pub returns : goal.returns
returns c =
    let w = c.args.self.width in
    let ss = dims_of c.args.dims.now in
    let from = c.args.from.now in
    let ls = take w from in
    let ms = take w c.args.levels.at in
    let t = table_in w from in
    let four : length c.args.levels.at ≡ 4 = search rules in
    let long : length ms ≡ w = omega (arith, length-take w c.args.levels.at) in
    let ls-long : length ls ≡ w = omega (arith, length-take w from, c.requires.sound.whole) in
    let e₀ = begun_levels w ms c.args.to.now c.begin.new.row long c.begin.ensures in
    let inv = c.loop-part.invariant in
    let all = no_group w (length c.loop-part.yielded) _ from _ c.requires.sound.whole inv.3 inv.2 inv.1 c.in-None.ensures.steps.1.0 in
    let e₁ : take (length c.loop-part.yielded) t ≡ t = take_all (length c.loop-part.yielded) t (omega (arith, all, table_length w from)) in
    let h = inv.0 in
    let e₂ = ended w (rolled ss ls ms t) ms c.args.to.now c.begin.new.row long c.begin.ensures in
    let after : c.loop-part.to ≡ row_over w ms (rolled ss ls ms t) c.args.to.now = cc in
    let wide = wide_rolled w ss ls ms t (sym c.requires.width) ls-long long (wide_table w from c.requires.sound.whole) in
    record {
      after = after;
      sound = rw after
          (sound_row w ms long (rolled ss ls ms t) _ wide (rolled_in_order ss ls ms t) (rolled_none_empty ss ls ms t c.requires.sound.filled));
    }
