use Rattle.std.proofs.Common.{◌≡◌, ◌<◌, ◌+◌, ◌∙◌, length, get_or, sym, arith}
use Rattle.std.proofs.lemmas.Result.{err_from_is_err_and}
use Rattle.std.proofs.lemmas.List.FromFn.{length-range_with_len, get_or-range_with_len}
use Rattle.host_port.specs.declared.side.Side.TheVariants.{Output}
use Rattle.host_port.proofs.BufferLemmas.{adds_nothing, adds_more, adds_stop, adds_all}
use Rattle.call_cycles.specs.Sums.{numbers_below}
use Rattle.call_cycles.specs.Graph.{component_count}
use Rattle.graph_report.specs.ExactText.{component_text}
use Rattle.graph_report.proofs.ExactLemmas.{all_arcs, all_low, taken, left}
use Rattle.graph_report.proofs.exact_report.put_components.Goals as goal

pub loop-c-init : goal.loop-c-init
loop-c-init g c = (adds_nothing Output _ _ tt, c.outside_arcs-rest.ensures ∙ c.requires.times.outside ∙ all_arcs c.args.graph.now)

pub leaving-requires : goal.leaving-requires
leaving-requires g c = grind (arith, all_low)

pub put_component-requires-clause-arcs : goal.put_component-requires-clause-arcs
put_component-requires-clause-arcs g c = grind (arith, taken)

pub returns-in_err-put_component : goal.returns-in_err-put_component
returns-in_err-put_component g c =
    let n = component_count c.args.graph.now in
    let i = c.loop-c.c in
    let low : i < n = omega arith in
    let long : i < length (numbers_below n) = omega (arith, length-range_with_len 0 n) in
    let zero : 0 + i ≡ i = omega arith in
    let at : i ≡ get_or (numbers_below n) i i = sym (get_or-range_with_len 0 n i i low ∙ zero) in
    let p = err_from_is_err_and c.from_residual.result c.from_residual.ensures.1 in
    rw p.1 (adds_stop Output (component_text c.args.symbols.now c.args.graph.now c.args.exact.now) (numbers_below n) i i _ _ _ _ _ _ _ _ long at c.loop-c.invariant.0 c.in_err-put_component.ensures)

pub loop-c-preserved : goal.loop-c-preserved
loop-c-preserved g c =
    let n = component_count c.args.graph.now in
    let i = c.loop-c.c in
    let low : i < n = omega arith in
    let long : i < length (numbers_below n) = omega (arith, length-range_with_len 0 n) in
    let zero : 0 + i ≡ i = omega arith in
    let at : i ≡ get_or (numbers_below n) i i = sym (get_or-range_with_len 0 n i i low ∙ zero) in
    (adds_more Output (component_text c.args.symbols.now c.args.graph.now c.args.exact.now) (numbers_below n) i i _ _ _ _ _ _ _ _ long at c.loop-c.invariant.0 c.in_ok-put_component.ensures, c.split_at.ensures.back ∙ left c.args.graph.now i c.leaving.result c.loop-c.rest.now low c.loop-c.invariant.1 c.leaving.ensures.within c.leaving.ensures.those c.leaving.ensures.next)

pub returns : goal.returns
returns g c =
    let n = component_count c.args.graph.now in
    adds_all Output (component_text c.args.symbols.now c.args.graph.now c.args.exact.now) (numbers_below n) c.loop-c.c _ _ _ _ _ (omega (arith, length-range_with_len 0 n)) c.loop-c.invariant.0
