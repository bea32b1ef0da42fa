-- A report was printed, or not, as the words ask for it.
use Rattle.std.proofs.Common.{◌≡◌, ℕ, ◌≤◌, Bool, true, false, List, [], ◌∷◌, ◌++◌, Option, Some, None, Result, Ok, Err, inl, refl, sym, ap, subst, ◌∙◌, arith}
use Rattle.std.specs.Prelude.{IfSome, MatchResult, is_some}
use Rattle.gp_base.specs.declared.records.Unit as units
use Rattle.gmon_data.specs.declared.hist.Hist.{Hist}
use Rattle.gmon_data.specs.Content.{Content}
use Rattle.gmon_data.specs.Hists.{IsUnitOf}
use Rattle.elf32_syms.specs.declared.image.Image.{Image}
use Rattle.flat_report.specs.Reports.{Reports}
use Rattle.flat_report.specs.Sources.{Sources}
use Rattle.flat_report.specs.declared.refusal.ReportRefusal.{ReportRefusal}
use Rattle.flat_report.specs.declared.refusal.ReportRefusal.TheVariants as reports
use Rattle.host_port.specs.Act.{Act, Out}
use Rattle.courses.specs.Course.{Course, Does, takes_no_memory}
use Rattle.command_words.specs.declared.words.Shown.{Shown}
use Rattle.command_words.specs.declared.words.Shown.TheVariants as shows
use Rattle.host_port.specs.Outside.{Outside}
use Rattle.host_port.proofs.PerformingLemmas.{puts_performs}
use Rattle.arc_filter.specs.Cuts.{without_cuts}
use Rattle.exact_flow.specs.Answers.{IsWideAnswer}
use Rattle.exact_flow.specs.Wide.{WideStep}
use Rattle.exact_flow.specs.Times.{ExactFlowValue}
use Rattle.exact_flow.specs.declared.refusal.ExactRefusal.{ExactRefusal}
use Rattle.exact_flow.specs.declared.refusal.ExactRefusal.TheVariants as exacts
use Rattle.courses.specs.Answer.{Chosen, all_reports, chosen_sources, exact_fault_of, exact_report, print_reports, report_fault_of, shown_reports, too_wide, wide_step}
use Rattle.courses.specs.Contract.{Acted}
use Rattle.command_reports.specs.Findings.{AreFindings, IsAsked, given_sources}
use Rattle.command_reports.specs.declared.findings.Findings.{Findings}
use Rattle.courses.specs.Standing.{MayStopHere, Stands}
use Rattle.courses.proofs.Standing.{no_memory, fails, does, goes_on, may_stop_unless, refuses}

abbrev refused : ReportRefusal → Result (Unit {0}) ReportRefusal
refused refusal = Err refusal

-- it goes on, or it ended
abbrev pub GoesOn : List (List ℕ) → Outside → Outside → ℕ → List Act → Course → Result (Unit {0}) ReportRefusal → Type 0
GoesOn words start new below done next result = MatchResult result (λ _. Stands words start new below done next) (λ refusal. Acted words start new (Err (report_fault_of refusal)))

-- a text was printed, or not
pub after_text : (words : List (List ℕ)) (start mid new : Outside) (below : ℕ) (done : List Act) (text : List ℕ) (next : Course) (result : Result (Unit {0}) ReportRefusal)
    → Stands words start mid below done (Does (Out text ∷ []) next) → Reports text mid new result → (result ≡ refused reports.OutOfMemory → new ≡ mid)
    → GoesOn words start new below (done ++ Out text ∷ []) next result
after_text words start mid new below done text next (Ok u) s puts idle = search (does, puts_performs)
after_text words start mid new below done text next (Err reports.WriteFault) s puts idle = search (fails, puts_performs)
after_text words start mid new below done text next (Err reports.OutOfMemory) s puts idle =
    no_memory words start new below done (Does (Out text ∷ []) next) (subst (λ (x : Outside). Stands words start x below done (Does (Out text ∷ []) next)) (sym (idle refl)) s) (λ contents. (inl refl, refl))

-- the reports of what was found are those of the profile
pub of_findings : (words : List (List ℕ)) (start old : Outside) (below : ℕ) (done : List Act) (chosen : Chosen) (image : Image) (total : Content) (s : Findings) (next : Course) → AreFindings image (without_cuts total image.symbols chosen.cuts) s
    → Stands words start old below done (print_reports chosen image total next) → Stands words start old below done (all_reports chosen (given_sources image s) next)
of_findings words start old below done chosen image total s next are = subst (λ (x : Sources). Stands words start old below done (all_reports chosen x next)) (sym are.value)

shown_may_stop : (shown : Shown) (hidden : List (List ℕ)) (s : Sources) (next : Course) (contents : ℕ → List ℕ) → MayStopHere contents (shown_reports shown hidden s next)
shown_may_stop shows.Flat hidden s next contents = (inl refl, refl)
shown_may_stop shows.Graph hidden s next contents = (inl refl, refl)
shown_may_stop shows.Both hidden s next contents = (inl refl, refl)

-- a step that is too wide isn't found without memory
wide_takes : (due : Option WideStep) → IfSome due (λ step. takes_no_memory (too_wide step) ≡ false)
wide_takes None = tt
wide_takes (Some step) = refl

-- memory may be wanted before the first report
may_stop_all : (chosen : Chosen) (s : Sources) (next : Course) (contents : ℕ → List ℕ) → MayStopHere contents (all_reports chosen s next)
may_stop_all chosen s next contents = search (may_stop_unless, wide_takes, shown_may_stop)

pub may_stop_reports : (chosen : Chosen) (image : Image) (total : Content) (next : Course) (contents : ℕ → List ℕ) → MayStopHere contents (print_reports chosen image total next)
may_stop_reports chosen image total next contents = may_stop_all chosen (chosen_sources chosen image total) next contents

-- a step of the exact times is too wide, or memory was wanted for them
pub no_exact : (words : List (List ℕ)) (start new : Outside) (below : ℕ) (done : List Act) (chosen : Chosen) (s : Sources) (next : Course) (refusal : ExactRefusal) → chosen.exact ≡ true → IsWideAnswer s.graph s.shares.of refusal
    → Stands words start new below done (all_reports chosen s next) → Acted words start new (Err (exact_fault_of refusal))
no_exact words start new below done chosen s next exacts.OutOfMemory asked wide stands = search (no_memory, may_stop_all)
no_exact words start new below done chosen s next (exacts.TooWide head arc) asked wide stands =
    refuses words start new below done too_wide (wide_step chosen.exact s) (shown_reports chosen.shown chosen.hidden s (exact_report chosen.exact s next)) (record { head = head; arc = arc }) stands
    (ap (λ (b : Bool). wide_step b s) asked ∙ wide) tt

-- none is, where they are asked for
pub narrow : (words : List (List ℕ)) (start new : Outside) (below : ℕ) (done : List Act) (chosen : Chosen) (image : Image) (s : Findings) (next : Course) (found : Option ExactFlowValue) → IsAsked chosen.exact s found
    → Stands words start new below done (all_reports chosen (given_sources image s) next)
    → Stands words start new below done (shown_reports chosen.shown chosen.hidden (given_sources image s) (exact_report (is_some found) (given_sources image s) next))
narrow words start new below done chosen image s next found asked stands =
    let given = given_sources image s in
    subst (λ (b : Bool). Stands words start new below done (shown_reports chosen.shown chosen.hidden given (exact_report b given next))) (sym (asked_is chosen.exact asked))
    (goes_on words start new below done too_wide (wide_step chosen.exact given) (shown_reports chosen.shown chosen.hidden given (exact_report chosen.exact given next)) stands (none_wide chosen.exact asked))
  where
    asked_is : (b : Bool) → IsAsked b s found → is_some found ≡ b
    asked_is false none = ap is_some none
    asked_is true is = ap is_some is.1

    none_wide : (b : Bool) → IsAsked b s found → wide_step b (given_sources image s) ≡ None
    none_wide false none = refl
    none_wide true is = is.4

-- whatever was done
pub goes_on_anyhow : (words : List (List ℕ)) (start new : Outside) (below : ℕ) (done : List Act) (next : Course) (result : Result (Unit {0}) ReportRefusal) → GoesOn words start new below done next result
    → MatchResult result (λ _. (acts : List Act) × Stands words start new below acts next) (λ refusal. Acted words start new (Err (report_fault_of refusal)))
goes_on_anyhow words start new below done next (Ok u) s = (done, s)
goes_on_anyhow words start new below done next (Err refusal) a = a

-- the reports of the same profile
pub of_the_same : (words : List (List ℕ)) (start new : Outside) (below : ℕ) (done : List Act) (chosen : Chosen) (image : Image) (total due : Content) (next : Course) → total ≡ due
    → Stands words start new below done (print_reports chosen image due next) → Stands words start new below done (print_reports chosen image total next)
of_the_same words start new below done chosen image total due next same s = subst (λ (p : Content). Stands words start new below done (print_reports chosen image p next)) (sym same) s

pub some_rate : (hists : List Hist) (o : Option units.Unit) (u : units.Unit) → IsUnitOf hists o → o ≡ Some u → 1 ≤ u.rate
some_rate [] o u is some = absurd (let none : None ≡ Some u = sym is ∙ some in cc)
some_rate (h ∷ hists) o u is some = grind arith
