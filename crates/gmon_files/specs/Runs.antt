-- The files of runs in both forms, and that they say what was logged.
use Rattle.std.specs.Prelude.{◌≡◌, ℕ, ◌^◌, ◌<◌, List, None}
use Rattle.std.specs.List.{All}
use Rattle.gp_base.specs.declared.records.Form.{Form}
use Rattle.gp_base.specs.declared.records.Form.TheVariants.{Bsd, Gnu}
use Rattle.gp_base.specs.declared.records.Span.{Span}
use Rattle.settings.specs.Setup.{IsFraction}
use Rattle.gmon_cells.specs.RunRecords.{run_records}
use Rattle.gmon_bsd.specs.Run.{bsd_run_text}
use Rattle.gmon_gnu.specs.Run.{gnu_run_text}
use Rattle.mcount_arcs.specs.declared.sizes.Sizes.{Sizes}
use Rattle.mcount_arcs.specs.Arcs.{CallFits, arcs_of}
use Rattle.mcount_arcs.specs.Log.{LogEntry}
use Rattle.mcount_arcs.specs.Sizes.{IsText, sizes_of}
use Rattle.gmon_files.specs.Forms.{file_records, file_refusal, form_of}

-- the file of a run's log in a form
abbrev pub run_text : Form → Sizes → List LogEntry → ℕ → List ℕ
run_text Bsd z log rate = bsd_run_text z log rate
run_text Gnu z log rate = gnu_run_text z log rate

-- A text is read, in the form that its first four bytes choose, as what was logged.
pub record SaysLog (form : Form) (z : Sizes) (log : List LogEntry) (rate : ℕ) (text : List ℕ) : Type 0 where
  pub form_is : form_of text ≡ form
  pub accepted : file_refusal text ≡ None
  pub records : file_records text ≡ run_records form z log rate

-- So is the file of every log: for every text, every two fractions and every rate of four bytes, where callees and
-- numbers of calls have four bytes.
abbrev pub RunFilesSayTheirLogs : Type 0
RunFilesSayTheirLogs = (form : Form) (text : Span) (hist hash rate : ℕ) (log : List LogEntry) → IsText text → IsFraction hist → IsFraction hash → rate < 2 ^ 32 → All CallFits (arcs_of (sizes_of text hist hash) log)
    → SaysLog form (sizes_of text hist hash) log rate (run_text form (sizes_of text hist hash) log rate)
