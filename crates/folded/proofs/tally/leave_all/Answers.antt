use Rattle.folded.proofs.MarkLemmas.{leaves_some_place, leaves_none, leaves_some}
use Rattle.folded.proofs.tally.leave_all.Goals as goal
use Rattle.folded.proofs.tally.leave_all.Goals.{in-Some, in_default}

pub leave-requires-clause-places : goal.leave-requires-clause-places
leave-requires-clause-places c = search leaves_some_place

pub loop-i-preserved : goal.loop-i-preserved
loop-i-preserved c =
    elim c.match-functions-i.branch [
      | in-Some w ↦ leaves_some c.args.passed c.loop-i.i w.in-Some.f c.args.functions.now c.args.marks.now c.loop-i.marks c.match-functions-i.marks w.leave.new.self c.loop-i-test.true c.requires.functions c.loop-i.invariant w.in-Some.is w.leave.ensures w.marks-is
      | in_default w ↦ leaves_none c.args.passed c.loop-i.i c.args.functions.now c.args.marks.now c.loop-i.marks c.match-functions-i.marks c.loop-i-test.true c.loop-i.invariant w.in_default.is w.marks-is
    ]
