use Rattle.std.proofs.Common.{◌≡◌, ◌∙◌, ℕ, List, ap, subst, sym}
use Rattle.std.specs.Prelude.{map, string_bytes, is_some}
use Rattle.command_words.specs.Items.{words_at}
use Rattle.courses.specs.Answer.{chosen_by, exact_report, shown_reports}
use Rattle.courses.specs.Standing.{Stands}
use Rattle.command_reports.specs.Findings.{given_sources}
use Rattle.command_reports.proofs.Reporting.{may_stop_reports, narrow, no_exact, of_findings}
use Rattle.courses.proofs.Standing.{no_memory}
use Rattle.command_reports.proofs.report_text.print_reports.Goals as goal

pub returns-in_default : goal.returns-in_default
returns-in_default g c = search (no_memory, may_stop_reports)

pub returns-in_default-chosen_findings : goal.returns-in_default-chosen_findings
returns-in_default-chosen_findings g c = search (no_memory, may_stop_reports)

pub returns-in-Err : goal.returns-in-Err
returns-in-Err g c = λ words start below done next s.
    let chosen = chosen_by c.args.words.now c.args.selection.now in
    let findings = c.in-Ok-chosen_findings.findings in
    let all = of_findings words start _ below done chosen c.args.image.now c.args.total findings next c.in-Ok-chosen_findings.ensures s in
    let refused = c.in-Err.ensures.refused in
    rw c.exact_fault.ensures (no_exact words start _ below done chosen (given_sources c.args.image.now findings) next c.in-Err.refusal refused.0 refused.1 all)

pub returns-in-Ok-print_all : goal.returns-in-Ok-print_all
returns-in-Ok-print_all g c = λ words start below done next s.
    let chosen = chosen_by c.args.words.now c.args.selection.now in
    let findings = c.in-Ok-chosen_findings.findings in
    let all = of_findings words start _ below done chosen c.args.image.now c.args.total findings next c.in-Ok-chosen_findings.ensures s in
    let here = narrow words start _ below done chosen c.args.image.now findings next c.in-Ok-exact_asked.exact c.in-Ok-exact_asked.ensures.found all in
    let hidden : map string_bytes c.deref.result.now ≡ chosen.hidden = ap (map string_bytes) c.deref.ensures.value ∙ c.in-Ok.ensures ∙ ap (words_at c.args.words.now) c.as_slice.ensures in
    c.in-Ok-print_all.ensures words start below done next
    (subst (λ (names : List (List ℕ)). Stands words start (g.H.Host.outside c.args.host.now) below done (shown_reports chosen.shown names (given_sources c.args.image.now findings) (exact_report (is_some c.in-Ok-exact_asked.exact) (given_sources c.args.image.now findings) next))) (sym hidden) here)

pub returns : goal.returns
returns g c = λ words start below done next s.
    let chosen = chosen_by c.args.words.now c.args.selection.now in
    let findings = c.in-Ok-chosen_findings.findings in
    let all = of_findings words start _ below done chosen c.args.image.now c.args.total findings next c.in-Ok-chosen_findings.ensures s in
    let here = narrow words start _ below done chosen c.args.image.now findings next c.in-Ok-exact_asked.exact c.in-Ok-exact_asked.ensures.found all in
    let hidden : map string_bytes c.deref.result.now ≡ chosen.hidden = ap (map string_bytes) c.deref.ensures.value ∙ c.in-Ok.ensures ∙ ap (words_at c.args.words.now) c.as_slice.ensures in
    rw c.report_fault.ensures (c.in-Err-print_all.ensures words start below done next
    (subst (λ (names : List (List ℕ)). Stands words start (g.H.Host.outside c.args.host.now) below done (shown_reports chosen.shown names (given_sources c.args.image.now findings) (exact_report (is_some c.in-Ok-exact_asked.exact) (given_sources c.args.image.now findings) next))) (sym hidden) here))
