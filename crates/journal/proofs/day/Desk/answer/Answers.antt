use Rattle.std.proofs.Common.{rules, ◌≡◌, ℕ, List, ◌++◌, string_bytes, vec_len, ap, ◌∙◌}
use Rattle.std.proofs.lemmas.List.{with_items_is}
use Rattle.summary.specs.Memory.{table_in}
use Rattle.model.specs.House.{ask, told}
use Rattle.warehouse.specs.Views.{dims_in, limits_in, house_of}
use Rattle.formats.specs.Text.{table_text}
use Rattle.journal.specs.declared.day.Desk.{Desk}
use Rattle.journal.proofs.Telling.{answer_text, refused_text}
use Rattle.journal.proofs.day.Desk.answer.Goals as goal
use Rattle.journal.proofs.day.Desk.answer.Goals.{then-is_ok+in_ok-write_table, else-is_ok}

pub returns-clause-told : goal.returns-clause-told
returns-clause-told c =
    let desk = c.args.self.now in
    let d = told (dims_in desk.house) (limits_in desk.house) (house_of desk.house) (ask c.args.numbers.now (vec_len desk.out)) in
    elim c.if-is_ok.branch [
      | then-is_ok+in_ok-write_table w ↦
          answer_text d c.ask-reply.result (string_bytes desk.text) (string_bytes c.if-is_ok.self.text) (string_bytes c.write_reply.new.text)
          (search rules) (search rules)
          (λ t n e.
          let row : w.deref.result.now ≡ c.ask-reply.new.out = w.deref.ensures.value ∙ with_items_is desk.out c.ask-reply.new.out (search rules) in
          let held = c.ask-reply.ensures.shown t n (ap (λ k. told (dims_in desk.house) (limits_in desk.house) (house_of desk.house) (ask c.args.numbers.now k)) c.deref_mut.ensures.len ∙ e) in
          ap (λ (k : Desk). string_bytes k.text) w.self-is
          ∙ (w.in_ok-write_table.ensures
          ∙ ap (λ (bs : List ℕ). string_bytes desk.text ++ bs)
          (ap (λ (xs : List ℕ). table_text (table_in w.shape.result.width xs)) row
          ∙ (ap (λ (v : ℕ). table_text (table_in v c.ask-reply.new.out)) w.shape.ensures ∙ ap table_text held.0))))
          (search rules)
      | else-is_ok w ↦ refused_text d c.ask-reply.result (string_bytes desk.text) (string_bytes c.write_reply.new.text) (search rules) (search rules) (search rules)
    ]
