use Rattle.std.proofs.Common.{◌≡◌, ◌<◌, ◌-◌, ◌+◌, length, arith}
use Rattle.std.specs.List.{range_with_len}
use Rattle.std.proofs.lemmas.List.FromFn.{length-range_with_len}
use Rattle.std.proofs.lemmas.Result.{err_from_is_err_and}
use Rattle.host_port.specs.declared.side.Side.TheVariants.{Output}
use Rattle.host_port.proofs.BufferLemmas.{adds_all, adds_more, adds_stop}
use Rattle.graph_report.specs.GraphText.{callee_line}
use Rattle.graph_report.specs.Inputs.{sources_in}
use Rattle.graph_report.specs.Reports.{number_of}
use Rattle.graph_report.proofs.RangeLemmas.{run_item}
use Rattle.graph_report.proofs.entry_lines.put_callees.Goals as goal

pub returns-in_err-put_arc : goal.returns-in_err-put_arc
returns-in_err-put_arc g c =
    let p = err_from_is_err_and c.from_residual.result c.from_residual.ensures.1 in
    let r = c.args.report.now in
    let first = c.args.first in
    let n = c.args.end - first in
    let i = c.loop-i.i in
    let below : i - first < length (range_with_len first n) = omega (arith, length-range_with_len first n) in
    rw p.1 (adds_stop Output (callee_line (sources_in r.inputs) (number_of r)) (range_with_len first n) (i - first) i _ _ _ _ _ _ tt _ below (run_item first n i (omega arith) (omega arith)) c.loop-i.invariant c.in_err-put_arc.ensures)

pub loop-i-preserved : goal.loop-i-preserved
loop-i-preserved g c =
    let r = c.args.report.now in
    let first = c.args.first in
    let n = c.args.end - first in
    let i = c.loop-i.i in
    let below : i - first < length (range_with_len first n) = omega (arith, length-range_with_len first n) in
    let next : i - first + 1 ≡ i + 1 - first = omega arith in
    rw next at (adds_more Output (callee_line (sources_in r.inputs) (number_of r)) (range_with_len first n) (i - first) i _ _ _ _ _ _ tt _ below (run_item first n i (omega arith) (omega arith)) c.loop-i.invariant c.in_ok-put_arc.ensures)

pub returns : goal.returns
returns g c =
    let r = c.args.report.now in
    let first = c.args.first in
    let n = c.args.end - first in
    adds_all Output (callee_line (sources_in r.inputs) (number_of r)) (range_with_len first n) (c.loop-i.i - first) _ _ _ _ _ (omega (arith, length-range_with_len first n)) c.loop-i.invariant
