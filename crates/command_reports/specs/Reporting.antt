-- How a command goes on once its reports were printed, or ends.
use Rattle.std.specs.Prelude.{ℕ, Bool, true, List, Result, Err, MatchResult}
use Rattle.elf32_syms.specs.declared.image.Image.{Image}
use Rattle.host_port.specs.Act.{Act}
use Rattle.host_port.specs.Outside.{Outside}
use Rattle.courses.specs.declared.outcome.Fault.{Fault}
use Rattle.courses.specs.Course.{Course}
use Rattle.gmon_data.specs.Content.{Content}
use Rattle.flat_report.specs.declared.refusal.ReportRefusal.{ReportRefusal}
use Rattle.command_words.specs.declared.words.Shown.{Shown}
use Rattle.flat_report.specs.Sources.{Sources}
use Rattle.courses.specs.Answer.{Chosen, exact_report, print_reports, report_fault_of, shown_reports}
use Rattle.courses.specs.Contract.{Acted}
use Rattle.courses.specs.Standing.{Stands}

-- The reports that are asked for were printed, and the command goes on; or it ended.
abbrev pub PrintsReports : Chosen → Image → Content → Outside → Outside → Result (Unit {0}) Fault → Type 0
PrintsReports chosen image total old new result =
    (words : List (List ℕ)) (start : Outside) (below : ℕ) (done : List Act) (next : Course) → Stands words start old below done (print_reports chosen image total next)
    → MatchResult result (λ _. (acts : List Act) × Stands words start new below acts next) (λ fault. Acted words start new (Err fault))

-- A part of a course that prints was gone along, and the command goes on behind it; or it ended.
abbrev pub Prints : (Course → Course) → Outside → Outside → Result (Unit {0}) ReportRefusal → Type 0
Prints part old new result =
    (words : List (List ℕ)) (start : Outside) (below : ℕ) (done : List Act) (next : Course) → Stands words start old below done (part next)
    → MatchResult result (λ _. (acts : List Act) × Stands words start new below acts next) (λ refusal. Acted words start new (Err (report_fault_of refusal)))

-- the reports by their kind, the times with nothing rounded, and both
abbrev pub PrintsShown : Shown → List (List ℕ) → Sources → Outside → Outside → Result (Unit {0}) ReportRefusal → Type 0
PrintsShown shown hidden s = Prints (shown_reports shown hidden s)

abbrev pub PrintsExact : Sources → Outside → Outside → Result (Unit {0}) ReportRefusal → Type 0
PrintsExact s = Prints (exact_report true s)

abbrev pub PrintsAll : Shown → List (List ℕ) → Bool → Sources → Outside → Outside → Result (Unit {0}) ReportRefusal → Type 0
PrintsAll shown hidden exact s = Prints (λ next. shown_reports shown hidden s (exact_report exact s next))
