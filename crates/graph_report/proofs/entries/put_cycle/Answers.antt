use Rattle.std.proofs.Common.{ℕ, ◌<◌, List, sym, ap, subst, ◌∙◌}
use Rattle.std.specs.Prelude.{◌==◌}
use Rattle.std.specs.List.{All}
use Rattle.std.proofs.lemmas.Result.{err_from_is_err_and}
use Rattle.call_cycles.specs.Graph.{component_of}
use Rattle.graph_report.specs.GraphText.{arcs_into, members_of}
use Rattle.graph_report.specs.Inputs.{sources_in}
use Rattle.graph_report.specs.Reports.{number_of}
use Rattle.graph_report.proofs.PrintLemmas.{first_of_four_fails, second_of_four_fails, third_of_four_fails, four_put}
use Rattle.graph_report.proofs.TextLemmas.{all_below, cycle_whole}
use Rattle.graph_report.proofs.entries.put_cycle.Goals as goal

pub put_callers-requires : goal.put_callers-requires
put_callers-requires g c = search (all_below, c.arcs_into.ensures)

pub put_members-requires : goal.put_members-requires
put_members-requires g c =
    let graph = c.args.report.now.inputs.sources.graph.now in
    record { members = subst (λ (fs : List ℕ). All (λ (f : ℕ). f < graph.functions) fs) (sym c.members.ensures) (all_below (λ f. component_of graph f == c.component-c.result) graph.functions) }

pub returns-in_err-put_callers : goal.returns-in_err-put_callers
returns-in_err-put_callers g c =
    let p = err_from_is_err_and c.from_residual.result c.from_residual.ensures.1 in
    let r = c.args.report.now in
    let into = c.arcs_into.ensures ∙ ap (arcs_into r.inputs.sources.graph.now) c.component-c.ensures.value in
    let callers = rw into at c.in_err-put_callers.ensures in
    rw p.1 (first_of_four_fails _ _ _ _ _ (cycle_whole (sources_in r.inputs) (number_of r) c.args.head) _ _ _ _ _ callers)

pub returns-in_err-put_cycle_line : goal.returns-in_err-put_cycle_line
returns-in_err-put_cycle_line g c =
    let p = err_from_is_err_and c.from_residual-in_err-put_cycle_line.result c.from_residual-in_err-put_cycle_line.ensures.1 in
    let r = c.args.report.now in
    let into = c.arcs_into.ensures ∙ ap (arcs_into r.inputs.sources.graph.now) c.component-c.ensures.value in
    let callers = rw into at c.in_ok-put_callers.ensures in
    rw p.1 (second_of_four_fails _ _ _ _ _ (cycle_whole (sources_in r.inputs) (number_of r) c.args.head) _ _ _ _ _ _ _ callers _ c.in_err-put_cycle_line.ensures)

pub returns-in_err-put_members : goal.returns-in_err-put_members
returns-in_err-put_members g c =
    let p = err_from_is_err_and c.from_residual-in_err-put_members.result c.from_residual-in_err-put_members.ensures.1 in
    let r = c.args.report.now in
    let into = c.arcs_into.ensures ∙ ap (arcs_into r.inputs.sources.graph.now) c.component-c.ensures.value in
    let those = c.members.ensures ∙ ap (members_of r.inputs.sources.graph.now) c.component-c.ensures.value in
    let callers = rw into at c.in_ok-put_callers.ensures in
    let members = rw those at c.in_err-put_members.ensures in
    rw p.1 (third_of_four_fails _ _ _ _ _ (cycle_whole (sources_in r.inputs) (number_of r) c.args.head) _ _ _ _ _ _ _ callers _ _ _ c.in_ok-put_cycle_line.ensures _ members)

pub returns : goal.returns
returns g c =
    let r = c.args.report.now in
    let into = c.arcs_into.ensures ∙ ap (arcs_into r.inputs.sources.graph.now) c.component-c.ensures.value in
    let those = c.members.ensures ∙ ap (members_of r.inputs.sources.graph.now) c.component-c.ensures.value in
    let callers = rw into at c.in_ok-put_callers.ensures in
    let members = rw those at c.in_ok-put_members.ensures in
    four_put _ _ _ _ _ (cycle_whole (sources_in r.inputs) (number_of r) c.args.head) _ _ _ _ _ _ _ callers _ _ _ c.in_ok-put_cycle_line.ensures _ _ _ _ members c.put.ensures.adds
