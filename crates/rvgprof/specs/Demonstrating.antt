-- The demo: its program, its summary, and how the command goes on.
-- Only private functions speak of it.
use Rattle.std.specs.Prelude.{◌≡◌, ℕ, List, length, None, Result, Err, MatchResult}
use Rattle.elf32_syms.specs.declared.image.Image.{Image}
use Rattle.host_port.specs.Act.{Act}
use Rattle.host_port.specs.Outside.{Outside}
use Rattle.settings.specs.declared.setup.Setup.{Setup}
use Rattle.courses.specs.declared.outcome.Done.{Done}
use Rattle.courses.specs.declared.outcome.Fault.{Fault}
use Rattle.flat_report.specs.declared.refusal.ReportRefusal.{ReportRefusal}
use Rattle.mcount_arcs.specs.Sizes.{sizes_of}
use Rattle.prof_machine.specs.Start.{final_world}
use Rattle.prof_machine.specs.Value.{RunValue, StandsFor, summary_of}
use Rattle.prof_machine.specs.World.{World}
use Rattle.courses.specs.Answer.{demo_lines, elf_fault_of, report_fault_of, run_program, sums_up}
use Rattle.demo_elf.specs.Elf.{demo_program}
use Rattle.elf32_syms.specs.declared.refusal.ElfRefusal.{ElfRefusal}
use Rattle.elf32_syms.specs.Refusals.{elf_refusal, IsRefusal as IsElfRefusal}
use Rattle.elf32_syms.specs.Image.{image_of, IsWithinLimits}
use Rattle.mcount_arcs.specs.Log.{distinct_count, kept_calls}
use Rattle.command_reports.specs.declared.findings.Findings.{Findings}
use Rattle.courses.specs.Reports.{demo_summary}
use Rattle.courses.specs.Contract.{Acted}
use Rattle.courses.specs.Standing.{Stands}
use Rattle.command_runs.specs.Running.{IsRunOf}

-- the demo program was read
pub record IsDemoRead (functions : ℕ) (bytes : List ℕ) (image : Image) : Type 0 where
  pub bytes_are : bytes ≡ demo_program functions
  pub accepted : elf_refusal bytes ≡ None
  pub image_is : image ≡ image_of bytes
  pub limits : IsWithinLimits (length bytes) image

-- it was not: there was no memory, or it is refused
abbrev pub IsDemoRefused : ℕ → Fault → Type 0
IsDemoRefused functions fault = (refusal : ElfRefusal) × (fault ≡ elf_fault_of refusal) × IsElfRefusal refusal (elf_refusal (demo_program functions))

-- the two lines of a demo's summary, of a run that stands for a world
abbrev pub SumsUp : ℕ → RunValue → Findings → List ℕ → Type 0
SumsUp functions run s line =
    (w : World) → StandsFor w run
    → line ≡ demo_summary functions (distinct_count (kept_calls run.machine.sizes w.log)) s.graph s.flow s.shares (summary_of run.machine.sizes w)

-- The summary of a demo's run was printed, and the command goes on; or it ended.
abbrev pub TellsDemo : ℕ → Image → RunValue → ℕ → Outside → Outside → Result (Unit {0}) ReportRefusal → Type 0
TellsDemo functions image run rate old new result =
    (words : List (List ℕ)) (start : Outside) (below : ℕ) (done : List Act) (bytes : List ℕ) (setup : Setup) → IsRunOf image bytes setup run → setup.rate ≡ rate
    → Stands words start old below done (demo_lines functions rate image (sizes_of image.text setup.hist setup.hash) (final_world image bytes setup))
    → MatchResult result (λ _. (acts : List Act) × Stands words start new below acts (sums_up (sizes_of image.text setup.hist setup.hash) (final_world image bytes setup))) (λ refusal. Acted words start new (Err (report_fault_of refusal)))

-- The demo program was run, and its summary printed; or it ended before.
abbrev pub RunsDemo : ℕ → Setup → Image → List ℕ → Outside → Outside → Result Done Fault → Type 0
RunsDemo functions setup image bytes old new result =
    (words : List (List ℕ)) (start : Outside) (below : ℕ) (done : List Act) → Stands words start old below done (run_program (λ z w. w.prints) setup (demo_lines functions setup.rate image) bytes image) → Acted words start new result
