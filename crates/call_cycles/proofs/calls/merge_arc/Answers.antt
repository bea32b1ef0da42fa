use Rattle.std.proofs.Common.{◌^◌, arith}
use Rattle.call_cycles.proofs.MergeLemmas.{last_fits, made_into_last, made_behind}
use Rattle.call_cycles.proofs.calls.merge_arc.Goals as goal
use Rattle.call_cycles.proofs.calls.merge_arc.Goals.{then-n-gt0+else-last-a, else-last-a-via-then-last-a+else-last-a-2, else-last-a-via-else-last-a, else-n-gt0}

pub overflow_add-arcs : goal.overflow_add-arcs
overflow_add-arcs c = omega (arith, last_fits c.args.arcs.now c.args.n c.args.a c.requires.inside (2 ^ 64) c.if-n-gt0.true c.requires.fits)

pub returns-then-last-a-2-clause-merged : goal.returns-then-last-a-2-clause-merged
returns-then-last-a-2-clause-merged c = λ sorted up merged. made_into_last c.args.arcs.now c.args.n c.args.a c.requires.inside sorted merged c.if-n-gt0.true c.if-last-a.true c.if-last-a-2.true

pub returns-clause-merged : goal.returns-clause-merged
returns-clause-merged c = λ sorted up merged.
    made_behind c.args.arcs.now c.args.n c.args.a c.requires.inside sorted merged up
    (λ some callers callees. elim c.if-n-gt0.branch [
      | then-n-gt0+else-last-a w ↦ elim w.else-last-a.branch [
        | else-last-a-via-then-last-a+else-last-a-2 other ↦ other.if-last-a-2.false callees
        | else-last-a-via-else-last-a other ↦ other.if-last-a.false callers
      ]
      | else-n-gt0 w ↦ absurd (omega arith)
    ])
