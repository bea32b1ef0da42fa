use Rattle.std.proofs.Common.{arith}
use Rattle.rvgprof.proofs.DemoLemmas.{count_yes, count_no}
use Rattle.rvgprof.proofs.demo.cycles_of.Goals as goal

pub loop-c-preserved : goal.loop-c-preserved
loop-c-preserved c = grind (arith, count_yes, count_no)
