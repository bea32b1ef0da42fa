use Rattle.std.proofs.Common.{◌++◌}
use Rattle.std.specs.Prelude.{codes}
use Rattle.std.proofs.lemmas.Result.{err_from_is_err_and}
use Rattle.call_cycles.specs.Flow.{time_of}
use Rattle.call_cycles.specs.Graph.{component_of}
use Rattle.graph_report.specs.Cycles.{cycle_name}
use Rattle.graph_report.specs.GraphText.{bracket_text, cycle_columns}
use Rattle.graph_report.specs.Inputs.{sources_in}
use Rattle.graph_report.specs.Reports.{number_of}
use Rattle.graph_report.specs.declared.subjects.Subject.TheVariants.{Cycle}
use Rattle.graph_report.proofs.PrintLemmas.{first_fails, both_put}
use Rattle.graph_report.proofs.TextLemmas.{primary_whole}
use Rattle.graph_report.proofs.entries.put_cycle_line.Goals as goal

pub returns-in_err-put : goal.returns-in_err-put
returns-in_err-put g c =
    let p = err_from_is_err_and c.from_residual.result c.from_residual.ensures.1 in
    let r = c.args.report.now in
    let s = sources_in r.inputs in
    let k = component_of s.graph c.args.head in
    let number = number_of r (Cycle c.args.head) in
    let front = rw (c.bytes.ensures.bytes, c.cycle_front.ensures) at c.in_err-put.ensures.adds in
    rw p.1 (first_fails _ _ _ (primary_whole s number (time_of s.flow k) (cycle_columns s k) (cycle_name s.graph k ++ codes " " ++ bracket_text number)) _ _ _ _ _ front)

pub returns : goal.returns
returns g c =
    let r = c.args.report.now in
    let s = sources_in r.inputs in
    let k = component_of s.graph c.args.head in
    let number = number_of r (Cycle c.args.head) in
    let front = rw (c.bytes.ensures.bytes, c.cycle_front.ensures) at c.in_ok-put.ensures.adds in
    both_put _ _ _ (primary_whole s number (time_of s.flow k) (cycle_columns s k) (cycle_name s.graph k ++ codes " " ++ bracket_text number)) _ _ _ _ _ _ _ _ front c.put_cycle_name.ensures
