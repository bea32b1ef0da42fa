use Rattle.std.proofs.Common.{◌≡◌, true, false, sym, ap, ◌∙◌}
use Rattle.std.specs.Prelude.{◌==◌}
use Rattle.call_cycles.specs.Graph.{component_of, is_cycle, source_of, target_of}
use Rattle.call_cycles.specs.declared.graphs.FunArc.{FunArc}
use Rattle.graph_report.proofs.arc_key.key_of.Goals as goal

pub returns-then-is_cycle : goal.returns-then-is_cycle
returns-then-is_cycle c =
    let g = c.args.graph.now in
    let i = c.args.i in
    let entered : c.component-entered.result ≡ target_of g i = c.component-entered.ensures.value ∙ ap (λ (a : FunArc). component_of g a.callee) c.arc-a.ensures.value in
    let apart : (source_of g i == target_of g i) ≡ false = ap (λ (a : FunArc). component_of g a.caller == component_of g a.callee) (sym c.arc-a.ensures.value) ∙ sym c.is_inside.ensures ∙ c.if-is_inside.false in
    let cycle : is_cycle g (target_of g i) ≡ true = ap (is_cycle g) (sym entered) ∙ sym c.is_cycle.ensures ∙ c.if-is_cycle.true in
    rw (c.in-Entered.is, apart, cycle) entered

pub returns-else-is_cycle : goal.returns-else-is_cycle
returns-else-is_cycle c =
    let g = c.args.graph.now in
    let i = c.args.i in
    let entered : c.component-entered.result ≡ target_of g i = c.component-entered.ensures.value ∙ ap (λ (a : FunArc). component_of g a.callee) c.arc-a.ensures.value in
    let apart : (source_of g i == target_of g i) ≡ false = ap (λ (a : FunArc). component_of g a.caller == component_of g a.callee) (sym c.arc-a.ensures.value) ∙ sym c.is_inside.ensures ∙ c.if-is_inside.false in
    let cycle : is_cycle g (target_of g i) ≡ false = ap (is_cycle g) (sym entered) ∙ sym c.is_cycle.ensures ∙ c.if-is_cycle.false in
    rw (c.in-Entered.is, apart, cycle) c.component_count-else-is_cycle.ensures.value
