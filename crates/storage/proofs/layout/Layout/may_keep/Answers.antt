use Rattle.std.proofs.Common.{◌≡◌, length, Some, None, sym, arith}
use Rattle.std.proofs.lemmas.Bool.{le-leb}
use Rattle.hierarchy.specs.Reading.{levels_in}
use Rattle.model.specs.House.{kept_at}
use Rattle.storage.specs.Memory.{sides, wide, limits, part_size, house_in}
use Rattle.tables.specs.Ready.{kept_tables}
use Rattle.model.proofs.Laws.{keep_accepted}
use Rattle.tables.proofs.Places.{tables_length}
use Rattle.tables.proofs.Scans.{read_are}
use Rattle.storage.proofs.layout.Layout.may_keep.Goals as goal

pub returns-in-Some : goal.returns-in-Some
returns-in-Some c =
    λ book.
    let l = c.args.self.now in
    let there = c.in_ok-levels.ensures.0 in
    let m = read_are l.tables c.in_ok-levels.levels c.args.numbers.now there c.in_ok-levels.ensures.1 in
    let at : kept_at (levels_in (sides l) c.args.numbers.now) 0 (kept_tables l.tables c.args.tables.now) ≡ Some c.in-Some.place = rw (← m) (sym c.in-Some.ensures) in
    rw (there, at)

pub returns-then-kept-ge-TABLES : goal.returns-then-kept-ge-TABLES
returns-then-kept-ge-TABLES c =
    λ book.
    let l = c.args.self.now in
    let there = c.in_ok-levels.ensures.0 in
    let m = read_are l.tables c.in_ok-levels.levels c.args.numbers.now there c.in_ok-levels.ensures.1 in
    let at : kept_at (levels_in (sides l) c.args.numbers.now) 0 (kept_tables l.tables c.args.tables.now) ≡ None = rw (← m) (sym c.in_default.ensures) in
    let full = le-leb 16 (length (kept_tables l.tables c.args.tables.now)) (omega (arith, tables_length (wide l) (part_size l) c.args.tables.now, c.if-kept-ge-TABLES.true, c.kept-kept.ensures)) in
    rw (there, at, full)

pub returns : goal.returns
returns c =
    λ book.
    let l = c.args.self.now in
    let there = c.in_ok-levels.ensures.0 in
    let m = read_are l.tables c.in_ok-levels.levels c.args.numbers.now there c.in_ok-levels.ensures.1 in
    let at : kept_at (levels_in (sides l) c.args.numbers.now) 0 (kept_tables l.tables c.args.tables.now) ≡ None = rw (← m) (sym c.in_default.ensures) in
    (keep_accepted (sides l) (limits l) (house_in l book c.args.tables.now) c.args.numbers.now there at (omega (arith, tables_length (wide l) (part_size l) c.args.tables.now, c.if-kept-ge-TABLES.false, c.kept-kept.ensures)), m)
