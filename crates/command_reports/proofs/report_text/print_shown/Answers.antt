use Rattle.std.proofs.Common.{◌++◌, ◌∷◌, [], ap, subst}
use Rattle.std.specs.Prelude.{codes, map, string_bytes}
use Rattle.std.proofs.lemmas.Result.{err_from_is_err_and}
use Rattle.host_port.specs.Act.{Out}
use Rattle.command_words.specs.declared.words.Shown.{Shown}
use Rattle.courses.specs.Answer.{shown_reports}
use Rattle.courses.specs.Course.{Does}
use Rattle.flat_report.specs.FlatText.{flat_text}
use Rattle.graph_report.specs.GraphText.{graph_text}
use Rattle.command_reports.specs.Findings.{given_sources}
use Rattle.courses.specs.Standing.{Stands}
use Rattle.command_reports.proofs.Reporting.{after_text, goes_on_anyhow}
use Rattle.command_reports.proofs.report_text.print_shown.Goals as goal

pub returns-in-Flat : goal.returns-in-Flat
returns-in-Flat g c = λ words start below done next s.
    let found = given_sources c.args.image.now c.args.findings.now in
    let hidden = map string_bytes c.args.hidden.now in
    let here = subst (λ (x : Shown). Stands words start (g.H.Host.outside c.args.host.now) below done (shown_reports x hidden found next)) c.in-Flat.is s in
    goes_on_anyhow words start _ below (done ++ Out (flat_text found hidden) ∷ []) next c.print_flat.result
    (after_text words start _ _ below done (flat_text found hidden) next c.print_flat.result here c.print_flat.ensures.printed (λ e. ap g.H.Host.outside (c.print_flat.ensures.idle e)))

pub returns-in-Graph : goal.returns-in-Graph
returns-in-Graph g c = λ words start below done next s.
    let found = given_sources c.args.image.now c.args.findings.now in
    let hidden = map string_bytes c.args.hidden.now in
    let here = subst (λ (x : Shown). Stands words start (g.H.Host.outside c.args.host.now) below done (shown_reports x hidden found next)) c.in-Graph.is s in
    goes_on_anyhow words start _ below (done ++ Out (graph_text found hidden) ∷ []) next c.print_graph.result
    (after_text words start _ _ below done (graph_text found hidden) next c.print_graph.result here c.print_graph.ensures.printed (λ e. ap g.H.Host.outside (c.print_graph.ensures.idle e)))

pub returns-in_err-print_flat-in-Both : goal.returns-in_err-print_flat-in-Both
returns-in_err-print_flat-in-Both g c = λ words start below done next s.
    let found = given_sources c.args.image.now c.args.findings.now in
    let hidden = map string_bytes c.args.hidden.now in
    let last = Does (Out (graph_text found hidden) ∷ []) next in
    let line = Does (Out (codes "\n") ∷ []) last in
    let here = subst (λ (x : Shown). Stands words start (g.H.Host.outside c.args.host.now) below done (shown_reports x hidden found next)) c.in-Both.is s in
    let p = err_from_is_err_and c.from_residual.result c.from_residual.ensures.1 in
    rw (p.1, p.2) (after_text words start _ _ below done (flat_text found hidden) line _ here c.in_err-print_flat-in-Both.ensures.printed (λ e. ap g.H.Host.outside (c.in_err-print_flat-in-Both.ensures.idle e)))

pub returns-in_err-print_text-in-Both : goal.returns-in_err-print_text-in-Both
returns-in_err-print_text-in-Both g c = λ words start below done next s.
    let found = given_sources c.args.image.now c.args.findings.now in
    let hidden = map string_bytes c.args.hidden.now in
    let last = Does (Out (graph_text found hidden) ∷ []) next in
    let line = Does (Out (codes "\n") ∷ []) last in
    let here = subst (λ (x : Shown). Stands words start (g.H.Host.outside c.args.host.now) below done (shown_reports x hidden found next)) c.in-Both.is s in
    let one = after_text words start _ _ below done (flat_text found hidden) line _ here c.in_ok-print_flat-in-Both.ensures.printed (λ e. ap g.H.Host.outside (c.in_ok-print_flat-in-Both.ensures.idle e)) in
    let p = err_from_is_err_and c.from_residual-in_err-print_text-in-Both.result c.from_residual-in_err-print_text-in-Both.ensures.1 in
    rw (p.1, p.2) (after_text words start _ _ below (done ++ Out (flat_text found hidden) ∷ []) (codes "\n") last _ one c.in_err-print_text-in-Both.ensures.printed (λ e. ap g.H.Host.outside (c.in_err-print_text-in-Both.ensures.idle e)))

pub returns-in_ok-print_text-in-Both : goal.returns-in_ok-print_text-in-Both
returns-in_ok-print_text-in-Both g c = λ words start below done next s.
    let found = given_sources c.args.image.now c.args.findings.now in
    let hidden = map string_bytes c.args.hidden.now in
    let last = Does (Out (graph_text found hidden) ∷ []) next in
    let line = Does (Out (codes "\n") ∷ []) last in
    let here = subst (λ (x : Shown). Stands words start (g.H.Host.outside c.args.host.now) below done (shown_reports x hidden found next)) c.in-Both.is s in
    let one = after_text words start _ _ below done (flat_text found hidden) line _ here c.in_ok-print_flat-in-Both.ensures.printed (λ e. ap g.H.Host.outside (c.in_ok-print_flat-in-Both.ensures.idle e)) in
    let two = after_text words start _ _ below (done ++ Out (flat_text found hidden) ∷ []) (codes "\n") last _ one c.in_ok-print_text-in-Both.ensures.printed (λ e. ap g.H.Host.outside (c.in_ok-print_text-in-Both.ensures.idle e)) in
    goes_on_anyhow words start _ below _ next c.print_graph-in-Both.result
    (after_text words start _ _ below _ (graph_text found hidden) next c.print_graph-in-Both.result two c.print_graph-in-Both.ensures.printed (λ e. ap g.H.Host.outside (c.print_graph-in-Both.ensures.idle e)))
