use Rattle.std.proofs.Common.{◌<◌, ◌+◌, ◌^◌, arith}
use Rattle.rvgprof.proofs.DemoLemmas.{grains_fit}
use Rattle.rvgprof.proofs.demo.roots_of.Goals as goal

fits : (c : goal.After-child_of) → c.loop-c.grains + (c.self_of.result + c.child_of.result) < 2 ^ 65
fits c =
    omega (
      arith,
      grains_fit c.args.graph.now c.args.flow.now c.loop-c.c c.loop-c.grains c.entering.result c.loop-c.invariant c.entering.ensures c.self_of.result c.child_of.result (omega arith) c.if-entering-eq0.true
          c.self_of.ensures c.child_of.ensures,
    )

pub overflow_add-grains : goal.overflow_add-grains
overflow_add-grains c = omega (arith, fits c)

pub overflow_add-grains-then-entering-eq0 : goal.overflow_add-grains-then-entering-eq0
overflow_add-grains-then-entering-eq0 c = omega (arith, fits c)

pub loop-c-preserved : goal.loop-c-preserved
loop-c-preserved c = grind arith

pub returns : goal.returns
returns c = grind arith
