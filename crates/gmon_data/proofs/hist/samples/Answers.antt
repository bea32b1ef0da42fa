use Rattle.std.proofs.Common.{arith}
use Rattle.gmon_data.proofs.HistLemmas.{samples-drop}
use Rattle.gmon_data.proofs.hist.samples.Goals as goal

pub total-samples-requires : goal.total-samples-requires
total-samples-requires c = grind (arith, samples-drop)

pub overflow_add-samples : goal.overflow_add-samples
overflow_add-samples c = grind (arith, samples-drop)

pub loop-i-preserved : goal.loop-i-preserved
loop-i-preserved c = grind (arith, samples-drop)
