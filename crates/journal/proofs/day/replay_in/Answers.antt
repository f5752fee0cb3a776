use Rattle.std.proofs.Common.{ℕ, ◌-◌, ◌*◌, length, take, drop, string_bytes, ap, ◌∙◌}
use Rattle.std.proofs.lemmas.List.{take_rest}
use Rattle.std.proofs.lemmas.Result.{IfOk-weaker}
use Rattle.tables.specs.Rooms.{limits_of, row_of}
use Rattle.journal.proofs.Rightness.{right_so}
use Rattle.journal.proofs.Telling.{day_told}
use Rattle.journal.proofs.day.replay_in.Goals as goal

pub returns-clause-answers : goal.returns-clause-answers
returns-clause-answers c =
    let bytes = c.args.bytes.now in
    let part = take (length bytes - 4 * c.count_sides.result) (drop (4 * c.count_sides.result) bytes) in
    let behind = take_rest bytes (4 * c.count_sides.result) ∙ ap (λ (n : ℕ). drop (4 * n) bytes) c.count_sides.ensures.0 in
    IfOk-weaker c.run.result _ _
    (λ d told.
    right_so c.args.room bytes (string_bytes d.text)
    (day_told (limits_of c.args.room) (row_of c.args.room) bytes part c.as_slice.result.now (string_bytes d.text) c.in-Ok.dims
    (c.as_slice.ensures.value ∙ c.in_ok-sides.ensures) c.in-Ok.ensures.0 c.in-Ok.ensures.1 behind told))
    c.run.ensures.text
