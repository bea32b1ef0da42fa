use Rattle.std.proofs.Common.{◌≡◌, ◌++◌, ◌∷◌, ◌∙◌, [], ℕ, List, ap, refl}
use Rattle.std.specs.Prelude.{codes}
use Rattle.std.proofs.lemmas.Result.{err_from_is_err_and}
use Rattle.call_cycles.specs.Graph.{GraphValue}
use Rattle.elf32_syms.specs.declared.image.Symbol.{Symbol}
use Rattle.exact_flow.specs.Solution.{exact_flow_in}
use Rattle.exact_flow.specs.Times.{ExactFlowValue}
use Rattle.graph_report.specs.ExactText.{exact_text}
use Rattle.host_port.specs.Act.{Out}
use Rattle.host_port.specs.declared.side.Side.TheVariants.{Output}
use Rattle.host_port.proofs.PerformingLemmas.{puts_performs}
use Rattle.symbol_shares.specs.Shares.{attributed_of}
use Rattle.courses.specs.Course.{Does}
use Rattle.command_reports.specs.Findings.{given_sources}
use Rattle.command_reports.proofs.Reporting.{after_text}
use Rattle.courses.proofs.Standing.{does, fails}
use Rattle.command_reports.proofs.report_text.print_exact.Goals as goal

-- what was printed is the text of the graph's exact times
text_as : (symbols other : List Symbol) (g : GraphValue) (shares : List ℕ) (e : ExactFlowValue) (n m : ℕ) → other ≡ symbols → e ≡ exact_flow_in g shares → n ≡ m
    → exact_text other g e n ≡ exact_text symbols g (exact_flow_in g shares) m
text_as symbols other g shares e n m same is total =
    ap (λ (xs : List Symbol). exact_text xs g e n) same ∙ ap (λ (x : ExactFlowValue). exact_text symbols g x n) is ∙ ap (exact_text symbols g (exact_flow_in g shares)) total

pub returns-in_err-print_text : goal.returns-in_err-print_text
returns-in_err-print_text g c = λ words start below done next s.
    let found = given_sources c.args.image.now c.args.findings.now in
    let text = exact_text found.symbols found.graph (exact_flow_in found.graph found.shares.of) (attributed_of found.shares) in
    let p = err_from_is_err_and c.from_residual.result c.from_residual.ensures.1 in
    rw (p.1, p.2) (after_text words start _ _ below done (codes "\n") (Does (Out text ∷ []) next) _ s c.in_err-print_text.ensures.printed (λ e. ap g.H.Host.outside (c.in_err-print_text.ensures.idle e)))

pub returns-in_err-write_exact : goal.returns-in_err-write_exact
returns-in_err-write_exact g c = λ words start below done next s.
    let found = given_sources c.args.image.now c.args.findings.now in
    let text = exact_text found.symbols found.graph (exact_flow_in found.graph found.shares.of) (attributed_of found.shares) in
    let one = after_text words start _ _ below done (codes "\n") (Does (Out text ∷ []) next) _ s c.in_ok-print_text.ensures.printed (λ e. ap g.H.Host.outside (c.in_ok-print_text.ensures.idle e)) in
    let is = text_as c.args.image.now.symbols c.as_slice.result.now found.graph found.shares.of c.args.exact.now c.attributed.result (attributed_of found.shares) c.as_slice.ensures c.requires.exact c.attributed.ensures.value in
    let puts = rw is at c.in_err-write_exact.ensures in
    let p = err_from_is_err_and c.from_residual-in_err-write_exact.result c.from_residual-in_err-write_exact.ensures.1 in
    rw (p.1, p.2) (fails {T = Unit {0}} words start _ _ below (done ++ Out (codes "\n") ∷ []) (Out text ∷ []) next _ one (puts_performs {T = Unit {0}} Output text _ _ _ puts))

pub returns : goal.returns
returns g c = λ words start below done next s.
    let found = given_sources c.args.image.now c.args.findings.now in
    let text = exact_text found.symbols found.graph (exact_flow_in found.graph found.shares.of) (attributed_of found.shares) in
    let one = after_text words start _ _ below done (codes "\n") (Does (Out text ∷ []) next) _ s c.in_ok-print_text.ensures.printed (λ e. ap g.H.Host.outside (c.in_ok-print_text.ensures.idle e)) in
    let is = text_as c.args.image.now.symbols c.as_slice.result.now found.graph found.shares.of c.args.exact.now c.attributed.result (attributed_of found.shares) c.as_slice.ensures c.requires.exact c.attributed.ensures.value in
    let puts = rw is at c.in_ok-write_exact.ensures in (
      _,
      does {T = Unit {0}} words start _ _ below (done ++ Out (codes "\n") ∷ []) (Out text ∷ []) next (tt {0}) one (puts_performs Output text _ _ _ puts) refl,
    )
