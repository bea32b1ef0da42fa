-- The file that a run leaves, and what is read of it.
use Rattle.std.specs.Prelude.{◌≡◌, ℕ, ◌+◌, ◌*◌, ◌<◌, Bool, true, false, List, [], ◌++◌, None}
use Rattle.std.specs.List.{All}
use Rattle.elf32_syms.specs.Image.{image_of}
use Rattle.gp_base.specs.declared.records.Form.{Form}
use Rattle.gp_base.specs.declared.records.Form.TheVariants.{Gnu}
use Rattle.gp_base.specs.declared.records.Records.{Records}
use Rattle.gmon_block.specs.Layout.{layout_of}
use Rattle.settings.specs.declared.setup.Setup.{Setup}
use Rattle.gmon_cells.specs.RunRecords.{log_recs}
use Rattle.gmon_data.specs.Content.{Content, IsProfile, runs_at}
use Rattle.gmon_gnu.specs.Blocks.{executed_blocks}
use Rattle.gmon_gnu.specs.CountedRun.{block_recs}
use Rattle.gmon_gnu.specs.ProfileText.{profile_text}
use Rattle.mcount_arcs.specs.declared.sizes.Sizes.{Sizes}
use Rattle.mcount_arcs.specs.Arcs.{CallFits, arcs_of}
use Rattle.mcount_arcs.specs.Image.{block_image}
use Rattle.mcount_arcs.specs.Sizes.{AreSizes, sizes_of}
use Rattle.prof_machine.specs.Executions.{executions_at, executions_in, instructions_of}
use Rattle.prof_machine.specs.Start.{final_world}
use Rattle.prof_machine.specs.World.{World}
use Rattle.gmon_files.specs.Forms.{file_records, file_refusal, form_of}
use Rattle.courses.specs.Answer.{logged_profile, profile_bytes, profile_in}
use Rattle.command_words.specs.Words.{IsRunSetup}

-- the world in which the run of a program ends
abbrev pub end_world : List ℕ → Setup → World
end_world program setup = final_world (image_of program) program setup

abbrev pub text_sizes : List ℕ → Setup → Sizes
text_sizes program setup = sizes_of (image_of program).text setup.hist setup.hash

-- the gmon.out file of that run, in a form
abbrev pub gmon_text : Form → List ℕ → Setup → List ℕ
gmon_text form program setup = profile_bytes form setup (text_sizes program setup) (end_world program setup)

-- the memory of its runtime
abbrev pub memory_text : List ℕ → Setup → List ℕ
memory_text program setup = layout_of (block_image (text_sizes program setup) (end_world program setup).log)

-- ---- what is read of that file

-- how often each instruction was executed, where that is counted
abbrev pub execution_blocks : Bool → Sizes → World → List ℕ
execution_blocks false z w = []
execution_blocks true z w = executions_in z w.ran

-- one histogram, an arc for each pair of call site and callee, and the executions that are counted
abbrev pub records_of_run : Form → Setup → Sizes → World → Records
records_of_run form setup z w = record {
  form = form;
  recs = log_recs z w.log setup.rate ++ block_recs (executed_blocks z.low (execution_blocks setup.blocks z w));
}

-- the profile that is reported of a run
abbrev pub reported_profile : List ℕ → Setup → Content
reported_profile program setup = logged_profile (text_sizes program setup) (end_world program setup).log setup.rate

-- A text is read as what happened in a run of a program.
pub record SaysRun (form : Form) (program : List ℕ) (setup : Setup) (text : List ℕ) : Type 0 where
  pub form_is : form_of text ≡ form
  pub accepted : file_refusal text ≡ None
  pub records : file_records text ≡ records_of_run form setup (text_sizes program setup) (end_world program setup)
  -- its samples and calls are those that are reported of the run
  pub hists : (profile_in (file_records text)).hists ≡ (reported_profile program setup).hists
  pub arcs : (profile_in (file_records text)).arcs ≡ (reported_profile program setup).arcs
  pub «unit» : (profile_in (file_records text)).«unit» ≡ (reported_profile program setup).«unit»
  -- and where executions are counted, those of each instruction of the text are how often it retired
  pub executions : setup.blocks ≡ true → (i : ℕ) → i < instructions_of (text_sizes program setup)
      → runs_at ((text_sizes program setup).low + 4 * i) (profile_in (file_records text)).blocks ≡ executions_at (end_world program setup).ran ((text_sizes program setup).low + 4 * i)

-- The setup is one that words may ask for, the text one that the runtime is made for, and callees and numbers of calls
-- have four bytes.
pub record FitsFile (form : Form) (program : List ℕ) (setup : Setup) : Type 0 where
  pub within : IsRunSetup form setup
  pub sizes : AreSizes (text_sizes program setup)
  pub calls : All CallFits (arcs_of (text_sizes program setup) (end_world program setup).log)

-- the file of every such run says it
abbrev pub RunFilesAreReadBack : Type 0
RunFilesAreReadBack = (form : Form) (program : List ℕ) (setup : Setup) → FitsFile form program setup → SaysRun form program setup (gmon_text form program setup)

-- A text is of the GNU form, and is read as a profile.
pub record SaysProfile (p : Content) (text : List ℕ) : Type 0 where
  pub form_is : form_of text ≡ Gnu
  pub accepted : file_refusal text ≡ None
  pub content : profile_in (file_records text) ≡ p

-- and the file of every profile says it
abbrev pub ProfileFilesAreReadBack : Type 0
ProfileFilesAreReadBack = (p : Content) → IsProfile p → SaysProfile p (profile_text p)
