use Rattle.std.proofs.Common.{◌<◌, get_or, length, arith}
use Rattle.std.proofs.lemmas.List.{get_or_default}
use Rattle.std.proofs.lemmas.Result.{err_from_is_err_and}
use Rattle.host_port.specs.declared.side.Side.TheVariants.{Output}
use Rattle.host_port.proofs.BufferLemmas.{adds_more, adds_stop}
use Rattle.graph_report.specs.ArcLines.{line_by}
use Rattle.graph_report.specs.Inputs.{sources_in}
use Rattle.graph_report.specs.Reports.{number_of}
use Rattle.graph_report.proofs.entry_lines.put_arcs.Goals as goal

pub returns-in_err-put_arc : goal.returns-in_err-put_arc
returns-in_err-put_arc g c =
    let p = err_from_is_err_and c.from_residual.result c.from_residual.ensures.1 in
    let r = c.args.report.now in
    let xs = c.args.arcs.now in
    let k = c.loop-i.i-index in
    let below : k < length xs = omega arith in
    rw p.1 (adds_stop Output (line_by c.args.end (sources_in r.inputs) (number_of r)) xs k (get_or xs k 0) _ _ _ _ _ _ tt _ below (get_or_default _ _ _ _ below) c.loop-i.invariant c.in_err-put_arc.ensures)

pub loop-i-preserved : goal.loop-i-preserved
loop-i-preserved g c =
    let r = c.args.report.now in
    let xs = c.args.arcs.now in
    let k = c.loop-i.i-index in
    let below : k < length xs = omega arith in
    adds_more Output (line_by c.args.end (sources_in r.inputs) (number_of r)) xs k (get_or xs k 0) _ _ _ _ _ _ tt _ below (get_or_default _ _ _ _ below) c.loop-i.invariant c.in_ok-put_arc.ensures
