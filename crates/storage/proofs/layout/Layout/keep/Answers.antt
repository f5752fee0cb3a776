use Rattle.std.proofs.Common.{[], ◌∷◌, ◌++◌, refl, ◌∙◌, subst, arith}
use Rattle.std.proofs.lemmas.Result.{err_from_is_err_and}
use Rattle.hierarchy.specs.Dimensions.{Row}
use Rattle.model.specs.House.{keep, answer}
use Rattle.storage.specs.Memory.{sides, wide, limits, part_size, house_in}
use Rattle.tables.specs.Ready.{kept_tables, Left}
use Rattle.tables.proofs.Places.{tables_length}
use Rattle.model.proofs.Steps.{keep_done}
use Rattle.storage.proofs.Rebuilt.{memory_ready, does_done, does_refused}
use Rattle.storage.proofs.layout.Layout.keep.Goals as goal

pub add-requires : goal.add-requires
add-requires c =
    let l = c.args.self.now in
    let h = house_in l c.args.book.now c.args.tables.now in
    let room = (keep_done (sides l) (limits l) h c.args.numbers.now (c.in_ok-levels.ensures c.args.book.now).0).2 in
    record {
      ready = memory_ready l c.args.book.now c.args.tables.now c.requires.memory;
      room = omega (arith, room, tables_length (wide l) (part_size l) c.args.tables.now);
      row = c.requires.row;
    }

pub returns : goal.returns
returns c =
    let l = c.args.self.now in
    let ks = kept_tables l.tables c.args.tables.now in
    let accepted = c.in_ok-levels.ensures c.args.book.now in
    let left = subst (λ (ls : Row). Left l.tables (ks ++ (record { levels = ls; cells = answer (sides l) ls ks } ∷ [])) c.add.new.tables) accepted.1 c.add.ensures in
    does_done l (keep c.args.numbers.now) c.args.book.now c.args.tables.now c.args.book.now c.add.new.tables c.requires.memory
    accepted.0 refl c.requires.memory.booked refl (c.add.auto.tables ∙ c.requires.memory.long) left

pub returns-in_err-levels : goal.returns-in_err-levels
returns-in_err-levels c =
    let p = err_from_is_err_and c.from_residual.result c.from_residual.ensures.1 in
    rw (p.1, p.2) (does_refused c.requires.memory (c.in_err-levels.ensures c.args.book.now))
