use Rattle.std.proofs.Common.{List, sym, refl, ◌∙◌, subst, arith}
use Rattle.std.proofs.lemmas.Result.{err_from_is_err_and}
use Rattle.hierarchy.specs.Reading.{levels_in}
use Rattle.model.specs.House.{Kept, drop_table}
use Rattle.storage.specs.Memory.{sides, wide, part_size}
use Rattle.tables.specs.Ready.{kept_tables, Left}
use Rattle.model.proofs.Laws.{found}
use Rattle.tables.proofs.Places.{tables_length}
use Rattle.storage.proofs.Rebuilt.{memory_ready, does_done, does_refused}
use Rattle.storage.proofs.layout.Layout.drop_table.Goals as goal

pub remove-requires : goal.remove-requires
remove-requires c =
    let l = c.args.self.now in
    let at = found (levels_in (sides l) c.args.numbers.now) c.in_ok-place.place (kept_tables l.tables c.args.tables.now) (c.in_ok-place.ensures c.args.book.now).1 in
    (memory_ready l c.args.book.now c.args.tables.now c.requires, omega (arith, at.within, tables_length (wide l) (part_size l) c.args.tables.now))

pub returns : goal.returns
returns c =
    let l = c.args.self.now in
    let accepted = c.in_ok-place.ensures c.args.book.now in
    let at = found (levels_in (sides l) c.args.numbers.now) c.in_ok-place.place (kept_tables l.tables c.args.tables.now) accepted.1 in
    let left = subst (λ (ks : List Kept). Left l.tables ks c.remove.new.tables) (sym at.rest) c.remove.ensures in
    does_done l (drop_table c.args.numbers.now) c.args.book.now c.args.tables.now c.args.book.now c.remove.new.tables c.requires
    accepted.0 refl c.requires.booked refl (c.remove.auto.tables ∙ c.requires.long) left

pub returns-in_err-place : goal.returns-in_err-place
returns-in_err-place c =
    let p = err_from_is_err_and c.from_residual.result c.from_residual.ensures.1 in
    rw (p.1, p.2) (does_refused c.requires (c.in_err-place.ensures c.args.book.now))
