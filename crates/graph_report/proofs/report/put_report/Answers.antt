use Rattle.std.proofs.Common.{map, string_bytes}
use Rattle.std.proofs.lemmas.Result.{err_from_is_err_and}
use Rattle.graph_report.specs.Inputs.{sources_in}
use Rattle.graph_report.proofs.PrintLemmas.{first_fails, both_put}
use Rattle.graph_report.proofs.ReportLemmas.{report_whole}
use Rattle.graph_report.proofs.report.put_report.Goals as goal

pub returns-in_err-put : goal.returns-in_err-put
returns-in_err-put g c =
    let p = err_from_is_err_and c.from_residual.result c.from_residual.ensures.1 in
    rw p.1 (first_fails _ _ _ (report_whole (sources_in c.args.report.now.inputs) (map string_bytes c.args.hidden.now)) _ _ _ _ _ c.in_err-put.ensures.adds)

pub returns : goal.returns
returns g c = both_put _ _ _ (report_whole (sources_in c.args.report.now.inputs) (map string_bytes c.args.hidden.now)) _ _ _ _ _ _ _ _ c.in_ok-put.ensures.adds c.put_entries.ensures
