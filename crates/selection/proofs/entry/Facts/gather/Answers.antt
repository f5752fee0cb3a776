use Rattle.std.proofs.Common.{◌≡◌, ◌+◌, ◌*◌, ◌<◌, true, length, None, ◌∙◌, arith, rules, mul-zero}
use Rattle.std.proofs.lemmas.List.{length_push}
use Rattle.hierarchy.specs.Reading.{fact_refusal}
use Rattle.hierarchy.specs.Views.{dims_of}
use Rattle.selection.proofs.Ledger.{count_above, count_most, none_refused, left_more, left_none, gather_start, gather_turn, gather_end}
use Rattle.selection.proofs.entry.Facts.gather.Goals as goal

pub loop-part-init : goal.loop-part-init
loop-part-init c =
    let ss = dims_of c.args.self.dims.now in
    let start : (length ss + 1) * 0 ≡ 0 = mul-zero (length ss + 1) in (
      rw start (search rules),
      (gather_start c.of-shape.result.width ss c.args.row.now c.begin.new.row c.finest.result c.of-shape.ensures c.of-shape.result.most
          c.finest.ensures (omega (arith, c.requires, c.of-shape.ensures)) c.begin.ensures).0,
    )

pub unwrap-amount-requires : goal.unwrap-amount-requires
unwrap-amount-requires c =
    let ss = dims_of c.args.self.dims.now in
    let xs = c.args.self.numbers.now in
    let i = length c.loop-part.yielded in
    let more = left_more (length ss + 1) xs i c.loop-part.part-iterator c.next.new.self c.next.result c.in-Some.part c.loop-part.invariant.0 c.in-Some.is c.next.ensures.steps in
    let below : i < c.args.self.count = rw c.args.self.counted (count_above ss xs i more.2) in
    let h : fact_refusal ss c.in-Some.part.now ≡ None = rw more.0 (none_refused ss c.args.self.count xs i c.args.self.right below) in
    search (rules, h)

pub put-requires : goal.put-requires
put-requires c =
    let ss = dims_of c.args.self.dims.now in
    let xs = c.args.self.numbers.now in
    let i = length c.loop-part.yielded in
    let more = left_more (length ss + 1) xs i c.loop-part.part-iterator c.next.new.self c.next.result c.in-Some.part c.loop-part.invariant.0 c.in-Some.is c.next.ensures.steps in
    let below : i < c.args.self.count = rw c.args.self.counted (count_above ss xs i more.2) in
    let read = rw c.unwrap-amount.ensures at c.read.ensures in
    let r = gather_turn c.of-shape.result.width ss xs c.begin.new.row c.loop-part.row c.args.self.count i
    c.one.result c.of-shape.ensures c.of-shape.result.most c.args.self.right c.args.self.few
    (rw c.of-shape.ensures (omega (arith, c.requires))) below c.in-Some.part.now more.0 (c.one.ensures.0 ∙ read.1) c.one.ensures.1 (c.one.ensures.2 ∙ read.2) c.loop-part.invariant.1 in
    record { sound = r.0; fits = (omega (arith, r.1.0, c.one.ensures.1), omega (arith, r.1.1)) }

pub loop-part-preserved : goal.loop-part-preserved
loop-part-preserved c =
    let ss = dims_of c.args.self.dims.now in
    let xs = c.args.self.numbers.now in
    let i = length c.loop-part.yielded in
    let more = left_more (length ss + 1) xs i c.loop-part.part-iterator c.next.new.self c.next.result c.in-Some.part c.loop-part.invariant.0 c.in-Some.is c.next.ensures.steps in
    let below : i < c.args.self.count = rw c.args.self.counted (count_above ss xs i more.2) in
    let read = rw c.unwrap-amount.ensures at c.read.ensures in
    let r = gather_turn c.of-shape.result.width ss xs c.begin.new.row c.loop-part.row c.args.self.count i
    c.one.result c.of-shape.ensures c.of-shape.result.most c.args.self.right c.args.self.few
    (rw c.of-shape.ensures (omega (arith, c.requires))) below c.in-Some.part.now more.0 (c.one.ensures.0 ∙ read.1) c.one.ensures.1 (c.one.ensures.2 ∙ read.2) c.loop-part.invariant.1 in
    let told : c.put.result ≡ true = c.put.ensures.told ∙ r.2 in
    let put = rw told at c.put.ensures.after in
    let holds = r.3 in
    rw (length_push c.loop-part.yielded c.in-Some.part) (more.1, cc)

pub returns : goal.returns
returns c =
    let ss = dims_of c.args.self.dims.now in
    let xs = c.args.self.numbers.now in
    let i = length c.loop-part.yielded in
    let end = left_none (length ss + 1) xs i c.loop-part.part-iterator c.next.new.self c.next.result c.loop-part.invariant.0 c.in-None.is c.next.ensures.steps in
    let began = gather_start c.of-shape.result.width ss c.args.row.now c.begin.new.row c.finest.result c.of-shape.ensures c.of-shape.result.most
    c.finest.ensures (omega (arith, c.requires, c.of-shape.ensures)) c.begin.ensures in
    gather_end c.of-shape.result.width ss xs c.begin.new.row c.loop-part.row c.args.self.count i c.of-shape.ensures c.args.self.right
    (rw c.of-shape.ensures (omega (arith, c.requires))) began.1 (rw c.args.self.counted (count_most ss xs i end)) c.args.self.counted c.loop-part.invariant.1
