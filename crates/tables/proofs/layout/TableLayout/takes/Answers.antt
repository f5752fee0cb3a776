use Rattle.hierarchy.specs.Views.{entry_of}
use Rattle.tables.specs.Memory.{sides, wide}
use Rattle.tables.proofs.Taking.{takes_found, takes_new}
use Rattle.tables.proofs.layout.TableLayout.takes.Goals as goal

pub returns-then-is_ok : goal.returns-then-is_ok
returns-then-is_ok c =
    let l = c.args.self.now in
    takes_found (sides l) l.shape.width l.shaped (entry_of (wide l) c.args.fact) c.args.part.now l.groups c.find.result
    c.requires.0 c.requires.1 c.find.ensures c.is_ok.result c.is_ok.ensures.value c.if-is_ok.true

pub returns-else-is_ok : goal.returns-else-is_ok
returns-else-is_ok c =
    let l = c.args.self.now in
    takes_new (sides l) l.shape.width l.shaped (entry_of (wide l) c.args.fact) c.args.part.now l.groups c.find.result
    c.requires.0 c.requires.1 c.find.ensures c.is_ok.result c.count.result c.is_ok.ensures.value c.if-is_ok.false c.count.ensures
