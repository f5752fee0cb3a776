use Rattle.std.proofs.Common.{refl}
use Rattle.hierarchy.proofs.Widths.{dims_few}
use Rattle.storage.specs.Memory.{sides}
use Rattle.storage.proofs.Deletes.{nothing_deleted, deleted_done}
use Rattle.storage.proofs.Inserts.{read_entry}
use Rattle.storage.proofs.Rebuilt.{does_refused}
use Rattle.storage.proofs.layout.Layout.delete.Goals as goal

pub returns-then-not-strike : goal.returns-then-not-strike
returns-then-not-strike c =
    let read = c.in_ok-fact.ensures in
    let entry = read_entry (sides c.args.self.now) c.args.numbers.now c.in_ok-fact.fact (dims_few c.args.self.now.tables.dims) read.0 read.1 read.2 in
    let struck = c.if-not-strike.ensures in
    let none = nothing_deleted c.args.self.now c.args.book.now c.args.tables.now c.requires c.args.numbers.now c.in_ok-fact.fact read.0 entry.0 struck.told in
    rw (struck.none refl) (does_refused c.requires none)

pub returns : goal.returns
returns c =
    let read = c.in_ok-fact.ensures in
    let entry = read_entry (sides c.args.self.now) c.args.numbers.now c.in_ok-fact.fact (dims_few c.args.self.now.tables.dims) read.0 read.1 read.2 in
    let struck = c.if-not-strike.ensures in
    deleted_done c.args.self.now c.args.book.now c.args.tables.now c.requires c.args.numbers.now c.in_ok-fact.fact read.0 entry.0
    _ _ struck.told struck.facts struck.holds (search c) (assumption c)
