use Rattle.std.proofs.lemmas.Result.{err_from_is_err_and}
use Rattle.graph_report.specs.Inputs.{sources_in}
use Rattle.graph_report.specs.Labels.{label_of}
use Rattle.graph_report.specs.Reports.{number_of}
use Rattle.graph_report.proofs.PrintLemmas.{first_fails, both_put}
use Rattle.graph_report.proofs.TextLemmas.{member_whole}
use Rattle.graph_report.proofs.entry_lines.put_member.Goals as goal

pub of-requires : goal.of-requires
of-requires g c =
    let r = c.args.report.now in
    record { count = (sources_in r.inputs).graph.functions; of = label_of (sources_in r.inputs) (number_of r); labels = r.labelled; below = c.requires.function }

pub returns-in_err-put : goal.returns-in_err-put
returns-in_err-put g c =
    let p = err_from_is_err_and c.from_residual.result c.from_residual.ensures.1 in
    let r = c.args.report.now in
    let front = rw (c.bytes.ensures.bytes, c.member_front.ensures) at c.in_err-put.ensures.adds in
    rw p.1 (first_fails _ _ _ (member_whole (sources_in r.inputs) (number_of r) c.args.f) _ _ _ _ _ front)

pub returns : goal.returns
returns g c =
    let r = c.args.report.now in
    let front = rw (c.bytes.ensures.bytes, c.member_front.ensures) at c.in_ok-put.ensures.adds in
    let label = rw (c.of.ensures (sources_in r.inputs).graph.functions (label_of (sources_in r.inputs) (number_of r)) r.labelled c.requires.function) at c.put-2.ensures.adds in
    both_put _ _ _ (member_whole (sources_in r.inputs) (number_of r) c.args.f) _ _ _ _ _ _ _ _ front label
