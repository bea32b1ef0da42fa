use Rattle.std.proofs.Common.{◌∙◌, length, ap}
use Rattle.symbol_shares.specs.Shares.{shares_of}
use Rattle.call_cycles.specs.Values.{profile_graph}
use Rattle.command_reports.proofs.FindingLemmas.{are_findings}
use Rattle.command_reports.proofs.findings.findings_of.Goals as goal

pub returns : goal.returns
returns c =
    let symbols = c.as_slice-symbols.ensures in
    let total = c.args.total in
    let graph = c.in_ok-graph.ensures in
    are_findings c.args.image.now total _ (c.in_ok-shares.ensures.shares ∙ ap (shares_of total.hists) symbols) (graph.value ∙ ap (profile_graph total.arcs) symbols)
    c.in_ok-flow.ensures.one c.rate_of-rate.ensures.rate (graph.functions ∙ ap length symbols) graph.components c.in_ok-flow.ensures.flow graph.few c.rate_of-rate.ensures.some
