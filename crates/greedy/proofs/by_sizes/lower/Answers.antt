use Rattle.hierarchy.specs.Views.{dims_of}
use Rattle.greedy.proofs.Lowering.{lowering_more}
use Rattle.greedy.proofs.by_sizes.lower.Goals as goal

pub loop-question-preserved : goal.loop-question-preserved
loop-question-preserved c =
    lowering_more (dims_of c.args.dims.now) c.args.all.now c.loop-question.all c.args.at c.loop-question.question-index _ c.takes_off.result
    c.requires.all c.requires.there c.loop-question-test.true c.loop-question.invariant c.takes_off.ensures
