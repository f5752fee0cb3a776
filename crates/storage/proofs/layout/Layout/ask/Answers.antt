use Rattle.std.proofs.Common.{◌≡◌, length, Some, rules}
use Rattle.std.proofs.lemmas.Result.{err_from_is_err_and}
use Rattle.std.proofs.lemmas.Bool.{lt-ltb}
use Rattle.hierarchy.specs.Reading.{levels_in}
use Rattle.hierarchy.specs.Views.{levels_of}
use Rattle.replies.specs.declared.Refusal.TheVariants.{NoRoom}
use Rattle.summary.specs.Memory.{start}
use Rattle.model.specs.House.{ask, source, refusal}
use Rattle.storage.specs.Memory.{sides, wide, limits, house_in}
use Rattle.tables.specs.Ready.{kept_table, kept_tables}
use Rattle.tables.proofs.Scans.{read_are}
use Rattle.storage.proofs.Rebuilt.{asked_refused, asked_shown}
use Rattle.storage.proofs.layout.Layout.ask.Goals as goal

pub returns-in_err-levels : goal.returns-in_err-levels
returns-in_err-levels c =
    let l = c.args.self.now in
    let n = length c.args.out.now in
    let h = house_in l c.args.book.now c.args.tables.now in
    let e : refusal (sides l) (limits l) h (ask c.args.numbers.now n) ≡ Some c.in_err-levels.field-0.0 = rw c.in_err-levels.ensures in
    let r = asked_refused l c.args.numbers.now n c.in_err-levels.field-0.0 c.args.book.now c.args.tables.now c.args.out.now e in
    let p = err_from_is_err_and c.from_residual.result c.from_residual.ensures.1 in
    rw (p.1, p.2) (record { reply = r.0; row = r.1 })

pub returns-then-out-length_at : goal.returns-then-out-length_at
returns-then-out-length_at c =
    let l = c.args.self.now in
    let ss = sides l in
    let n = length c.args.out.now in
    let ks = kept_tables l.tables c.args.tables.now in
    let ls = levels_in ss c.args.numbers.now in
    let there = c.in_ok-levels.ensures.0 in
    let m = read_are l.tables c.in_ok-levels.levels c.args.numbers.now there c.in_ok-levels.ensures.1 in
    let k : kept_table l.tables c.source-from.result c.args.tables.now ≡ source ss ls ks = rw (← m) c.source-from.ensures.1 in
    let p : c.length_at.result ≡ start (wide l) (length (source ss ls ks).cells) = rw (← k) c.length_at.ensures in
    let short = lt-ltb n (start (wide l) (length (source ss ls ks).cells)) (rw (← p) c.if-out-length_at.true) in
    let h = house_in l c.args.book.now c.args.tables.now in
    let e : refusal ss (limits l) h (ask c.args.numbers.now n) ≡ Some (NoRoom n) = rw (there, short) in
    let r = asked_refused l c.args.numbers.now n (NoRoom n) c.args.book.now c.args.tables.now c.args.out.now e in
    record { reply = r.0; row = r.1 }

pub returns : goal.returns
returns c =
    let l = c.args.self.now in
    let there = c.in_ok-levels.ensures.0 in
    let m = read_are l.tables c.in_ok-levels.levels c.args.numbers.now there c.in_ok-levels.ensures.1 in
    let r = asked_shown l c.args.numbers.now (levels_of (wide l) c.in_ok-levels.levels) c.source-from.result (length c.args.out.now) c.args.book.now
    c.args.tables.now c.args.out.now c.roll.new.to there m c.source-from.ensures.1 (rw (← c.length_at.ensures) c.if-out-length_at.false) c.roll.ensures.after in
    record { reply = search (rules, r.0); row = r.1 }
