use Rattle.std.proofs.Common.{sym}
use Rattle.std.proofs.lemmas.Result.{err_from_is_err_and}
use Rattle.graph_report.specs.Inputs.{sources_in}
use Rattle.graph_report.specs.Reports.{number_of}
use Rattle.graph_report.proofs.PrintLemmas.{first_of_four_fails, second_of_four_fails, third_of_four_fails, four_put}
use Rattle.graph_report.proofs.TextLemmas.{all_below, function_whole}
use Rattle.graph_report.proofs.entries.put_function.Goals as goal

pub put_callers-requires : goal.put_callers-requires
put_callers-requires g c = search (all_below, c.arcs_to.ensures)

pub put_callees-requires : goal.put_callees-requires
put_callees-requires g c = record { order = c.arcs_from-first.ensures.order; arcs = c.arcs_from-first.ensures.within }

pub returns-in_err-put_callers : goal.returns-in_err-put_callers
returns-in_err-put_callers g c =
    let p = err_from_is_err_and c.from_residual.result c.from_residual.ensures.1 in
    let r = c.args.report.now in
    let callers = rw c.arcs_to.ensures at c.in_err-put_callers.ensures in
    rw p.1 (first_of_four_fails _ _ _ _ _ (function_whole (sources_in r.inputs) (number_of r) c.args.f) _ _ _ _ _ callers)

pub returns-in_err-put_function_line : goal.returns-in_err-put_function_line
returns-in_err-put_function_line g c =
    let p = err_from_is_err_and c.from_residual-in_err-put_function_line.result c.from_residual-in_err-put_function_line.ensures.1 in
    let r = c.args.report.now in
    let callers = rw c.arcs_to.ensures at c.in_ok-put_callers.ensures in
    rw p.1 (second_of_four_fails _ _ _ _ _ (function_whole (sources_in r.inputs) (number_of r) c.args.f) _ _ _ _ _ _ _ callers _ c.in_err-put_function_line.ensures)

pub returns-in_err-put_callees : goal.returns-in_err-put_callees
returns-in_err-put_callees g c =
    let p = err_from_is_err_and c.from_residual-in_err-put_callees.result c.from_residual-in_err-put_callees.ensures.1 in
    let r = c.args.report.now in
    let callers = rw c.arcs_to.ensures at c.in_ok-put_callers.ensures in
    let callees = rw (sym c.arcs_from-first.ensures.arcs) at c.in_err-put_callees.ensures in
    rw p.1 (third_of_four_fails _ _ _ _ _ (function_whole (sources_in r.inputs) (number_of r) c.args.f) _ _ _ _ _ _ _ callers _ _ _ c.in_ok-put_function_line.ensures _ callees)

pub returns : goal.returns
returns g c =
    let r = c.args.report.now in
    let callers = rw c.arcs_to.ensures at c.in_ok-put_callers.ensures in
    let callees = rw (sym c.arcs_from-first.ensures.arcs) at c.in_ok-put_callees.ensures in
    four_put _ _ _ _ _ (function_whole (sources_in r.inputs) (number_of r) c.args.f) _ _ _ _ _ _ _ callers _ _ _ c.in_ok-put_function_line.ensures _ _ _ _ callees c.put.ensures.adds
