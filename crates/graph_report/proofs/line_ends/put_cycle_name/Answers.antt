use Rattle.std.proofs.Common.{◌++◌, ap, ◌∙◌}
use Rattle.std.specs.Prelude.{codes}
use Rattle.std.proofs.lemmas.Result.{err_from_is_err_and}
use Rattle.call_cycles.specs.Graph.{component_of}
use Rattle.graph_report.specs.Cycles.{cycle_name}
use Rattle.graph_report.specs.GraphText.{bracket_text}
use Rattle.graph_report.specs.Reports.{number_of}
use Rattle.graph_report.specs.declared.subjects.Subject.TheVariants.{Cycle}
use Rattle.graph_report.proofs.PrintLemmas.{first_fails, both_put}
use Rattle.graph_report.proofs.TextLemmas.{end_whole}
use Rattle.graph_report.proofs.line_ends.put_cycle_name.Goals as goal

pub returns-in_err-put : goal.returns-in_err-put
returns-in_err-put g c =
    let p = err_from_is_err_and c.from_residual.result c.from_residual.ensures.1 in
    let r = c.args.report.now in
    let graph = r.inputs.sources.graph.now in
    let whole = cycle_name graph (component_of graph c.args.head) in
    let tail = codes " " ++ bracket_text (number_of r (Cycle c.args.head)) ++ codes "\n" in
    let name = rw (c.cycle_name.ensures ∙ ap (cycle_name graph) c.component-c.ensures.value) at c.in_err-put.ensures.adds in
    rw p.1 (first_fails whole tail _ (end_whole whole (bracket_text (number_of r (Cycle c.args.head)))) _ _ _ _ _ name)

pub returns : goal.returns
returns g c =
    let r = c.args.report.now in
    let graph = r.inputs.sources.graph.now in
    let whole = cycle_name graph (component_of graph c.args.head) in
    let tail = codes " " ++ bracket_text (number_of r (Cycle c.args.head)) ++ codes "\n" in
    let name = rw (c.cycle_name.ensures ∙ ap (cycle_name graph) c.component-c.ensures.value) at c.in_ok-put.ensures.adds in
    both_put whole tail _ (end_whole whole (bracket_text (number_of r (Cycle c.args.head)))) _ _ _ _ _ _ _ _ name (rw (c.bytes.ensures.bytes, c.cycle_tail.ensures) at c.put-2.ensures.adds)
