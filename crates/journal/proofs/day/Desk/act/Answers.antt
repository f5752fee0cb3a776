use Rattle.std.proofs.Common.{sym, ap, ◌∙◌, vec_len}
use Rattle.warehouse.specs.Views.{dims_in, limits_in, house_of}
use Rattle.warehouse.specs.declared.house.Warehouse.{Warehouse}
use Rattle.model.proofs.Laws.{step_ask}
use Rattle.journal.proofs.day.Desk.act.Goals as goal

pub returns-in_ok-answer-in-Ask-clause-house : goal.returns-in_ok-answer-in-Ask-clause-house
returns-in_ok-answer-in-Ask-clause-house c =
    let house = c.args.self.now.house in
    rw c.in-Ask.is (ap (λ (h : Warehouse). house_of h) c.in_ok-answer-in-Ask.ensures.same.0 ∙ sym (step_ask (dims_in house) (limits_in house) (house_of house) c.args.numbers.now (vec_len c.args.self.now.out)))
