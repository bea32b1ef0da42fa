use Rattle.std.proofs.Common.{◌≡◌, get_or}
use Rattle.std.proofs.lemmas.Result.{err_from_is_err_and}
use Rattle.std.proofs.lemmas.List.{get_or_default}
use Rattle.host_port.specs.declared.side.Side.TheVariants.{Output}
use Rattle.host_port.proofs.BufferLemmas.{adds_nothing, adds_more, adds_stop}
use Rattle.graph_report.specs.ExactText.{arc_text}
use Rattle.graph_report.proofs.exact_report.put_arcs.Goals as goal

pub loop-arc-init : goal.loop-arc-init
loop-arc-init g c = adds_nothing Output _ _ tt

pub returns-in_err-put : goal.returns-in_err-put
returns-in_err-put g c =
    let arcs = c.args.arcs.now in
    let i = c.loop-arc.arc-index in
    let p = get_or arcs i 0 in
    let at : p ≡ get_or arcs i p = get_or_default arcs i 0 p c.loop-arc-test.true in
    let line = rw (c.bytes.ensures.bytes, c.arc_line.ensures) at c.in_err-put.ensures.adds in
    let e = err_from_is_err_and c.from_residual.result c.from_residual.ensures.1 in
    rw e.1 (adds_stop Output (arc_text c.args.symbols.now c.args.graph.now c.args.exact.now) arcs i p _ _ _ _ _ _ _ _ c.loop-arc-test.true at c.loop-arc.invariant line)

pub loop-arc-preserved : goal.loop-arc-preserved
loop-arc-preserved g c =
    let arcs = c.args.arcs.now in
    let i = c.loop-arc.arc-index in
    let p = get_or arcs i 0 in
    let line = rw (c.bytes.ensures.bytes, c.arc_line.ensures) at c.in_ok-put.ensures.adds in
    search (get_or_default, adds_more)
