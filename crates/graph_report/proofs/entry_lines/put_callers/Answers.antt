use Rattle.std.proofs.Common.{sym, ◌∙◌}
use Rattle.graph_report.specs.Inputs.{sources_in}
use Rattle.graph_report.specs.Reports.{number_of}
use Rattle.graph_report.proofs.PrintLemmas.{put_as}
use Rattle.graph_report.proofs.TextLemmas.{no_callers, some_callers}
use Rattle.graph_report.proofs.entry_lines.put_callers.Goals as goal

pub returns-then-is_spontaneous : goal.returns-then-is_spontaneous
returns-then-is_spontaneous g c =
    let r = c.args.report.now in
    put_as _ _ _ _ _ _ _ (no_callers (sources_in r.inputs) (number_of r) c.args.arcs.now (sym c.is_spontaneous.ensures ∙ c.if-is_spontaneous.true)) c.put_spontaneous.ensures

pub returns : goal.returns
returns g c =
    let r = c.args.report.now in
    put_as _ _ _ _ _ _ _ (some_callers (sources_in r.inputs) (number_of r) c.args.arcs.now (sym c.is_spontaneous.ensures ∙ c.if-is_spontaneous.false)) c.put_arcs.ensures
