use Rattle.std.proofs.Common.{◌<◌, ℕ, List, ap, sym, subst}
use Rattle.std.specs.List.{All, flat_map}
use Rattle.host_port.specs.Buffered.{Adds}
use Rattle.host_port.specs.declared.host.Failed.{Failed}
use Rattle.call_cycles.specs.Graph.{arc_count}
use Rattle.graph_report.proofs.ExactLemmas.{arcs_low}
use Rattle.std.proofs.lemmas.Result.{err_from_is_err_and}
use Rattle.host_port.specs.declared.side.Side.TheVariants.{Output}
use Rattle.host_port.proofs.BufferLemmas.{adds_then, adds_front}
use Rattle.graph_report.specs.ExactText.{arc_text, head_text, arcs_text}
use Rattle.graph_report.proofs.exact_report.put_component.Goals as goal

pub returns-in_err-put : goal.returns-in_err-put
returns-in_err-put g c =
    let p = err_from_is_err_and c.from_residual.result c.from_residual.ensures.1 in
    let line = rw (c.bytes.ensures.bytes, c.head_line.ensures) at c.in_err-put.ensures.adds in
    rw p.1 (adds_front Output (head_text c.args.symbols.now c.args.graph.now c.args.exact.now c.args.c) (arcs_text c.args.symbols.now c.args.graph.now c.args.exact.now c.args.c) _ _ _ _ _ line)

pub put_arcs-requires-clause-arcs : goal.put_arcs-requires-clause-arcs
put_arcs-requires-clause-arcs g c = subst (All (λ i. i < arc_count c.args.graph.now)) (sym c.requires.arcs) (arcs_low c.args.graph.now c.args.c)

pub returns : goal.returns
returns g c =
    let symbols = c.args.symbols.now in
    let graph = c.args.graph.now in
    let exact = c.args.exact.now in
    let line = rw (c.bytes.ensures.bytes, c.head_line.ensures) at c.in_ok-put.ensures.adds in
    let text = ap (flat_map (arc_text symbols graph exact)) c.requires.arcs in
    let lines = subst (λ (t : List ℕ). Adds {T = Unit {0}} {E = Failed} Output t c.put.new.self c.put_arcs.new.lines (g.H.Host.outside c.put.new.host) (g.H.Host.outside c.put_arcs.new.host) c.put_arcs.result) text c.put_arcs.ensures in
    adds_then Output (head_text symbols graph exact c.args.c) (arcs_text symbols graph exact c.args.c) _ _ _ _ _ _ _ _ line lines
