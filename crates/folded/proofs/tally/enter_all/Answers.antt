use Rattle.folded.proofs.MarkLemmas.{enters_few, enters_none, enters_some}
use Rattle.folded.proofs.tally.enter_all.Goals as goal
use Rattle.folded.proofs.tally.enter_all.Goals.{in-Some, in_default}

pub enter-requires-clause-places : goal.enter-requires-clause-places
enter-requires-clause-places c = search enters_few

pub loop-i-preserved : goal.loop-i-preserved
loop-i-preserved c =
    elim c.match-functions-i.branch [
      | in-Some w ↦ enters_some c.args.passed c.loop-i.i w.in-Some.f c.args.functions.now c.args.marks.now c.loop-i.marks c.match-functions-i.marks w.enter.new.self c.loop-i-test.true c.requires.functions c.loop-i.invariant w.in-Some.is w.enter.ensures w.marks-is
      | in_default w ↦ enters_none c.args.passed c.loop-i.i c.args.functions.now c.args.marks.now c.loop-i.marks c.match-functions-i.marks c.loop-i-test.true c.loop-i.invariant w.in_default.is w.marks-is
    ]
