use Rattle.std.proofs.Common.{◌+◌, refl, sym, ◌∙◌, arith}
use Rattle.graph_report.proofs.CycleLemmas.{no_numbers, number_added, no_number}
use Rattle.graph_report.proofs.cycles.cycle_numbers.Goals as goal
use Rattle.graph_report.proofs.cycles.cycle_numbers.Goals.{then-is_head, else-is_head}

pub loop-f-init : goal.loop-f-init
loop-f-init c = no_numbers c.args.graph.now c.in_ok-numbers.numbers.items (omega (arith, c.in_ok-numbers.ensures.len))

pub loop-f-preserved : goal.loop-f-preserved
loop-f-preserved c =
    let g = c.args.graph.now in
    let f = c.loop-f.f in
    let is = c.component_count.ensures.graph in
    let k = c.component-c.result in
    elim c.if-is_head.branch [
      | then-is_head w ↦ rw (w.numbers-is, w.count-is) (number_added g is f (omega arith) _ _ c.loop-f.invariant k (c.loop-f.count + 1) c.component-c.ensures.value (sym c.is_head.ensures ∙ w.if-is_head.true) refl)
      | else-is_head w ↦ rw (w.numbers-is, w.count-is) (no_number g is f (omega arith) _ _ c.loop-f.invariant k c.component-c.ensures.value (sym c.is_head.ensures ∙ w.if-is_head.false))
    ]
