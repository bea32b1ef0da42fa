use Rattle.std.proofs.Common.{◌≡◌, ◌∙◌, ◌++◌, ◌∷◌, [], ℕ, List, inl, refl, ap, subst}
use Rattle.std.proofs.lemmas.Result.{err_from_is_err_and}
use Rattle.flat_report.specs.Reports.{Reports}
use Rattle.host_port.specs.Act.{Out}
use Rattle.mcount_arcs.specs.Log.{distinct_count, kept_calls}
use Rattle.mcount_arcs.specs.Sizes.{sizes_of}
use Rattle.prof_machine.specs.Start.{final_world}
use Rattle.prof_machine.specs.Value.{summary_of}
use Rattle.courses.specs.Answer.{demo_lines, sums_up, logged_profile}
use Rattle.courses.specs.Reports.{demo_summary, profile_sources}
use Rattle.rvgprof.proofs.DemoLemmas.{summary_due}
use Rattle.rvgprof.proofs.Profiling.{profile_written}
use Rattle.command_reports.proofs.Reporting.{after_text, goes_on_anyhow}
use Rattle.courses.proofs.Standing.{no_memory}
use Rattle.rvgprof.proofs.demo.tell_demo.Goals as goal

pub returns-in_err-total : goal.returns-in_err-total
returns-in_err-total g c = λ words start below done bytes setup is rate s.
    let image = c.args.image.now in
    let p = err_from_is_err_and c.from_residual.result c.from_residual.ensures.1 in
    rw (p.1, p.2) (no_memory words start _ below done (demo_lines c.args.functions c.args.rate image (sizes_of image.text setup.hist setup.hash) (final_world image bytes setup)) s (λ contents. (inl refl, refl)))

pub returns-in_err-findings : goal.returns-in_err-findings
returns-in_err-findings g c = λ words start below done bytes setup is rate s.
    let image = c.args.image.now in
    let p = err_from_is_err_and c.from_residual-in_err-findings.result c.from_residual-in_err-findings.ensures.1 in
    rw (p.1, p.2) (no_memory words start _ below done (demo_lines c.args.functions c.args.rate image (sizes_of image.text setup.hist setup.hash) (final_world image bytes setup)) s (λ contents. (inl refl, refl)))

pub returns : goal.returns
returns g c = λ words start below done bytes setup is rate s.
    let image = c.args.image.now in
    let z = sizes_of image.text setup.hist setup.hash in
    let w = final_world image bytes setup in
    let gmon = c.gmon.ensures in
    let total = c.in_ok-total.total in
    let written : total ≡ logged_profile z w.log c.args.rate = profile_written c.gmon.result.now z w.log c.args.rate total (gmon.log w is.stands) (gmon.sizes ∙ is.sizes) c.in_ok-total.ensures.records in
    let made = profile_sources image (logged_profile z w.log c.args.rate) in
    let text = demo_summary c.args.functions (distinct_count (kept_calls z w.log)) made.graph made.flow made.shares (summary_of z w) in
    let due : c.bytes.result.now ≡ text = c.bytes.ensures.bytes ∙ summary_due c.args.functions image c.args.run.now c.in_ok-findings.findings total c.args.rate c.summary_of.result z w c.in_ok-findings.ensures c.summary_of.ensures is.stands is.sizes written in
    let printed = subst (λ (t : List ℕ). Reports t (g.H.Host.outside c.args.host.now) (g.H.Host.outside c.print_text.new.host) c.print_text.result) due c.print_text.ensures.printed in
    goes_on_anyhow words start _ below (done ++ Out text ∷ []) (sums_up z w) c.print_text.result
    (after_text words start _ _ below done text (sums_up z w) c.print_text.result s printed (λ e. ap g.H.Host.outside (c.print_text.ensures.idle e)))
