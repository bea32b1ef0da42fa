use Rattle.std.proofs.Common.{arith}
use Rattle.gmon_data.proofs.TallyLemmas.{total-drop}
use Rattle.gmon_data.proofs.arcs.Arcs.total.Goals as goal

pub overflow_add-sum : goal.overflow_add-sum
overflow_add-sum c = omega (arith, total-drop c.args.self.now c.loop-i.i c.get-sum.result c.get-sum.ensures, c.loop-i.invariant, c.requires)

pub loop-i-preserved : goal.loop-i-preserved
loop-i-preserved c = omega (arith, total-drop c.args.self.now c.loop-i.i c.get-sum.result c.get-sum.ensures, c.loop-i.invariant)
