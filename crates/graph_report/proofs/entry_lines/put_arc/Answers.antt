use Rattle.std.proofs.Common.{◌<◌}
use Rattle.std.proofs.lemmas.Result.{err_from_is_err_and}
use Rattle.graph_report.specs.ArcLines.{function_at_end}
use Rattle.graph_report.specs.Inputs.{sources_in}
use Rattle.graph_report.specs.Labels.{label_of}
use Rattle.graph_report.specs.Reports.{number_of}
use Rattle.graph_report.proofs.PrintLemmas.{first_fails, both_put}
use Rattle.graph_report.proofs.TextLemmas.{arc_line_is, end_within}
use Rattle.graph_report.proofs.entry_lines.put_arc.Goals as goal

pub of-requires : goal.of-requires
of-requires g c =
    let r = c.args.report.now in
    let s = sources_in r.inputs in
    record { count = s.graph.functions; of = label_of s (number_of r); labels = r.labelled; below = rw c.function_at.ensures (end_within s c.args.end c.arc-times.result c.arc-times.ensures.times) }

pub returns-in_err-put : goal.returns-in_err-put
returns-in_err-put g c =
    let p = err_from_is_err_and c.from_residual.result c.from_residual.ensures.1 in
    let r = c.args.report.now in
    let front = rw (c.bytes.ensures.bytes, c.arc_front.ensures) at c.in_err-put.ensures.adds in
    rw p.1 (first_fails _ _ _ (arc_line_is (sources_in r.inputs) (number_of r) c.args.end c.args.i c.arc-times.result c.arc-times.ensures.value) _ _ _ _ _ front)

pub returns : goal.returns
returns g c =
    let r = c.args.report.now in
    let s = sources_in r.inputs in
    let front = rw (c.bytes.ensures.bytes, c.arc_front.ensures) at c.in_ok-put.ensures.adds in
    let within = end_within s c.args.end c.arc-times.result c.arc-times.ensures.times in
    let below : c.function_at.result < s.graph.functions = rw c.function_at.ensures within in
    let named = rw c.function_at.ensures at (c.of.ensures s.graph.functions (label_of s (number_of r)) r.labelled below) in
    let label = rw named at c.put-2.ensures.adds in
    both_put _ _ _ (arc_line_is s (number_of r) c.args.end c.args.i c.arc-times.result c.arc-times.ensures.value) _ _ _ _ _ _ _ _ front label
