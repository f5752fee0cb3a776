use Rattle.std.proofs.Common.{take, vec_len, string_bytes, sym, refl, ap, ◌∙◌}
use Rattle.journal.specs.Deeds.{is_whole}
use Rattle.journal.proofs.Deeds.{whole_read}
use Rattle.journal.proofs.Telling.{turned, run_ended, run_whole, begun}
use Rattle.journal.proofs.day.run.Goals as goal

pub loop-step-preserved : goal.loop-step-preserved
loop-step-preserved c =
    let w = c.width-width.result in
    let desk = c.loop-step.desk in
    let rest = c.loop-step.rest.now in
    let step = c.in-Some.step in
    let reads = c.in-Some.ensures in
    let done = c.in_ok-act.ensures in
    let before = c.loop-step.invariant in
    record {
      layout = done.same.0 ∙ before.layout;
      out = done.same.1 ∙ before.out;
      told =
          turned desk.house c.act.new.self.house w (vec_len desk.out) (vec_len c.in_ok-desk.desk.out) rest step.rest.now step.kind step.count step.numbers (take step.count step.numbers)
          (string_bytes desk.text) (string_bytes c.act.new.self.text) _ reads before.out refl done.told done.house done.same.0 before.told;
      whole = sym (whole_read w rest step.kind step.count step.numbers step.rest.now reads) ∙ before.whole;
    }

pub returns-clause-text : goal.returns-clause-text
returns-clause-text c =
    let w = c.width-width.result in
    let desk = c.in_ok-desk.desk in
    let first = c.in_ok-desk.ensures in
    run_ended c.loop-step.desk.house w (vec_len desk.out) c.loop-step.rest.now (string_bytes c.loop-step.desk.text) _ c.in_default.ensures
    (c.loop-step.invariant.told ∙ begun _ _ _ _ _ _ _ _ _ _ c.args.bytes.now (string_bytes desk.text) first.dims first.room.0 first.none.0 c.width-width.ensures.0 first.room.1 first.none.1)

pub returns-clause-whole : goal.returns-clause-whole
returns-clause-whole c =
    c.is_empty-whole.ensures
    ∙ (run_whole c.width-width.result c.loop-step.rest.now c.in_default.ensures
    ∙ (c.loop-step.invariant.whole ∙ ap (λ v. is_whole v c.args.bytes.now) c.width-width.ensures.0))
