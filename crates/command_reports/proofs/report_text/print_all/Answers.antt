use Rattle.std.proofs.Common.{Option, subst}
use Rattle.std.specs.Prelude.{is_some}
use Rattle.std.proofs.lemmas.Result.{err_from_is_err_and}
use Rattle.exact_flow.specs.Times.{ExactFlowValue}
use Rattle.courses.specs.Answer.{exact_report}
use Rattle.command_reports.specs.Findings.{given_sources}
use Rattle.courses.specs.Standing.{Stands}
use Rattle.command_reports.proofs.report_text.print_all.Goals as goal

pub returns-in_err-print_shown : goal.returns-in_err-print_shown
returns-in_err-print_shown g c = λ words start below done next s.
    let found = given_sources c.args.image.now c.args.findings.now in
    let p = err_from_is_err_and c.from_residual.result c.from_residual.ensures.1 in
    rw (p.1, p.2) (c.in_err-print_shown.ensures words start below done (exact_report (is_some c.args.exact.now) found next) s)

pub returns-in-None : goal.returns-in-None
returns-in-None g c = λ words start below done next s.
    let found = given_sources c.args.image.now c.args.findings.now in
    let t = c.in_ok-print_shown.ensures words start below done (exact_report (is_some c.args.exact.now) found next) s in
    (t.0, subst (λ (o : Option ExactFlowValue). Stands words start (g.H.Host.outside c.print_shown.new.host) below t.0 (exact_report (is_some o) found next)) c.in-None.is t.1)

pub returns-in-Some : goal.returns-in-Some
returns-in-Some g c = λ words start below done next s.
    let found = given_sources c.args.image.now c.args.findings.now in
    let t = c.in_ok-print_shown.ensures words start below done (exact_report (is_some c.args.exact.now) found next) s in
    c.print_exact.ensures words start below t.0 next (subst (λ (o : Option ExactFlowValue). Stands words start (g.H.Host.outside c.print_shown.new.host) below t.0 (exact_report (is_some o) found next)) c.in-Some.is t.1)
