-- What each command does: its course, by the words alone. It knows neither running out of memory nor faults of the
-- host. A missing input counts as an empty file.
use Rattle.std.specs.Prelude.{ℕ, ◌-◌, ◌&&◌, nat_lt, Bool, true, false, List, [], ◌∷◌, ◌++◌, length, Option, Some, None, option_map, Ok, codes}
use Rattle.std.specs.List.{list_all}
use Rattle.gp_base.specs.declared.records.RawArc.{RawArc}
use Rattle.gp_base.specs.declared.records.Records.{Records}
use Rattle.gp_base.specs.declared.records.Form.{Form}
use Rattle.gp_base.specs.declared.records.Form.TheVariants.{Bsd, Gnu}
use Rattle.gp_base.specs.declared.refusal.GmonRefusal.{GmonRefusal}
use Rattle.gp_base.specs.declared.refusal.GmonRefusal.TheVariants as refusals
use Rattle.gp_base.specs.declared.limits.TheConstants.{MAX_PROFILE_BYTES, MAX_ELF_BYTES}
use Rattle.host_port.specs.declared.whole_file.LoadRefusal.{LoadRefusal}
use Rattle.host_port.specs.declared.whole_file.LoadRefusal.TheVariants as loads
use Rattle.host_port.specs.Act.{Act, Create, Write, Close, Out, File, file_content}
use Rattle.elf32_syms.specs.declared.refusal.ElfRefusal.{ElfRefusal}
use Rattle.elf32_syms.specs.declared.refusal.ElfRefusal.TheVariants as elf
use Rattle.elf32_syms.specs.Refusals.{elf_refusal}
use Rattle.elf32_syms.specs.Image.{image_of}
use Rattle.elf32_syms.specs.declared.image.Image.{Image}
use Rattle.settings.specs.declared.setup.Setup.{Setup}
use Rattle.text_lines.specs.Lines.{show_text, image_text}
use Rattle.annotate.specs.Listing.{annotated_text}
use Rattle.arc_filter.specs.Cuts.{without_cuts}
use Rattle.gmon_bsd.specs.Run.{runtime_text as bsd_runtime_text}
use Rattle.gmon_data.specs.Content.{Content, empty_content, content_of, conflict_of, wide_records}
use Rattle.gmon_data.specs.declared.refusal.AddRefusal.{AddRefusal}
use Rattle.gmon_data.specs.declared.refusal.AddRefusal.TheVariants as adding
use Rattle.gmon_data.specs.declared.refusal.ReadRefusal.{ReadRefusal}
use Rattle.gmon_data.specs.declared.refusal.ReadRefusal.TheVariants as reading
use Rattle.gmon_files.specs.Forms.{file_records, file_refusal}
use Rattle.gmon_cells.specs.RunRecords.{log_recs}
use Rattle.gmon_files.specs.Runs.{run_text}
use Rattle.gmon_gnu.specs.ProfileText.{profile_text}
use Rattle.courses.specs.Reports.{profile_sources, demo_summary}
use Rattle.flat_report.specs.Sources.{Sources}
use Rattle.flat_report.specs.FlatText.{flat_text}
use Rattle.graph_report.specs.GraphText.{graph_text}
use Rattle.graph_report.specs.ExactText.{exact_text}
use Rattle.exact_flow.specs.Solution.{exact_flow_in}
use Rattle.exact_flow.specs.Wide.{WideStep, first_wide}
use Rattle.symbol_shares.specs.Shares.{attributed_of}
use Rattle.flat_report.specs.declared.refusal.ReportRefusal.{ReportRefusal}
use Rattle.flat_report.specs.declared.refusal.ReportRefusal.TheVariants as reports
use Rattle.folded.specs.declared.refusal.FoldRefusal.{FoldRefusal}
use Rattle.folded.specs.declared.refusal.FoldRefusal.TheVariants as folds
use Rattle.exact_flow.specs.declared.refusal.ExactRefusal.{ExactRefusal}
use Rattle.exact_flow.specs.declared.refusal.ExactRefusal.TheVariants as exacts
use Rattle.demo_elf.specs.Elf.{demo_program}
use Rattle.profile_sum.specs.Sum.{sum_of, clash_of}
use Rattle.profile_sum.specs.declared.refusal.SumRefusal.{SumRefusal}
use Rattle.profile_sum.specs.declared.refusal.SumRefusal.TheVariants as summing
use Rattle.gmon_gnu.specs.Blocks.{block_record}
use Rattle.gmon_gnu.specs.Run.{runtime_text as gnu_runtime_text}
use Rattle.mcount_arcs.specs.Arcs.{arcs_of}
use Rattle.mcount_arcs.specs.Log.{LogEntry, distinct_count, kept_calls}
use Rattle.mcount_arcs.specs.Value.{GmonValue}
use Rattle.mcount_arcs.specs.declared.sizes.Sizes.{Sizes}
use Rattle.gmon_block.specs.Layout.{layout_of}
use Rattle.mcount_arcs.specs.Sizes.{sizes_of}
use Rattle.mcount_arcs.specs.Image.{block_image}
use Rattle.prof_machine.specs.declared.summary.StartRefusal.{StartRefusal}
use Rattle.prof_machine.specs.declared.summary.StartRefusal.TheVariants as starts
use Rattle.prof_machine.specs.Executions.{executions_in}
use Rattle.prof_machine.specs.Start.{final_world, start_refusal}
use Rattle.prof_machine.specs.Value.{summary_of}
use Rattle.prof_machine.specs.World.{World}
use Rattle.courses.specs.declared.outcome.Fault.{Fault}
use Rattle.courses.specs.declared.outcome.Fault.TheVariants.{Usage, BadElf, BadProfile, Unlike, ReadFault, WriteFault, OutOfMemory, TooLarge, ProgramTooLarge, EntryOutside, TooWide}
use Rattle.command_words.specs.declared.words.Command.{Command}
use Rattle.command_words.specs.declared.words.Command.TheVariants.{Show, Syms, Run, Sum, Report, Profile, Demo, Annotate, Folded, Help, Version}
use Rattle.command_words.specs.declared.words.Selection.{Selection}
use Rattle.command_words.specs.declared.words.Shown.{Shown}
use Rattle.command_words.specs.declared.words.Shown.TheVariants as shows
use Rattle.command_words.specs.Items.{nth_word, words_at}
use Rattle.command_words.specs.Words.{command_of}
use Rattle.courses.specs.Course.{Course, Ends, Input, Does, Knows, refusal_course, unless, one_by_one}
use Rattle.courses.specs.Help.{help_text, version_text}
use Rattle.courses.specs.FoldedReport.{folded_report}

-- the file of what a runtime holds in a form
abbrev pub runtime_text : Form → GmonValue → ℕ → List ℕ
runtime_text Bsd v rate = bsd_runtime_text v rate
runtime_text Gnu v rate = gnu_runtime_text v rate

-- the file of what a runtime holds in a form, and behind it the executions that were counted
abbrev pub held_text : Form → ℕ → GmonValue → List ℕ → List ℕ
held_text form rate v counts = runtime_text form v rate ++ block_record v.sizes.low counts

-- what it is for the program that a run doesn't start
abbrev pub start_fault_of : StartRefusal → Fault
start_fault_of (starts.ProgramTooLarge need end) = ProgramTooLarge need end
start_fault_of (starts.EntryOutside entry) = EntryOutside entry
start_fault_of starts.OutOfMemory = OutOfMemory

-- it is carried out, and starts no run
abbrev pub end_course : Course
end_course = Ends (Ok (record { run = None }))

-- the program's file that a word names is read, and then it goes on with its bytes and its image
abbrev pub program : ℕ → (List ℕ → Image → Course) → Course
program word next = Input word MAX_ELF_BYTES (λ bytes. unless BadElf (elf_refusal bytes) (next bytes (image_of bytes)))

-- the profile file that a word names is read, of at most so many bytes, and then it goes on with its length and its records
abbrev pub profile_file : ℕ → ℕ → (ℕ → Records → Course) → Course
profile_file word limit next = Input word limit (λ bytes. unless (λ refusal. BadProfile refusal word) (file_refusal bytes) (next (length bytes) (file_records bytes)))

-- the profile of a file's records
abbrev pub profile_in : Records → Content
profile_in records = content_of (wide_records records.recs)

-- Profile files are read one after the other, together of at most so many bytes, and added to a total; then it goes
-- on with the sum. A file's own histograms are added up first, and then added to those of the files before it.
abbrev pub profiles : List ℕ → ℕ → Content → (Content → Course) → Course
profiles [] left total next = next total
profiles (word ∷ words) left total next =
    profile_file word left (λ len records.
    unless (λ unlike. Unlike unlike word) (conflict_of empty_content (wide_records records.recs))
    (unless (λ unlike. Unlike unlike word) (clash_of total (profile_in records))
    (profiles words (left - len) (sum_of total (profile_in records)) next)))

-- a file is written as a whole
abbrev pub file_acts : List ℕ → List ℕ → List Act
file_acts name text = Create name ∷ Write text ∷ Close ∷ []

-- a file is written where a name is given
abbrev pub given_file_acts : Option (List ℕ) → List ℕ → List Act
given_file_acts None bytes = []
given_file_acts (Some name) bytes = file_acts name bytes

-- The files that a run writes: its profile in a form, and where a name is given the memory of its runtime.
pub record RunFiles : Type 0 where
  pub gmon : List ℕ
  pub form : Form
  pub memory : Option (List ℕ)

-- the record of executions that stands behind a run's own, where they are counted
abbrev pub counts_text : Bool → Sizes → World → List ℕ
counts_text false z w = []
counts_text true z w = block_record z.low (executions_in z w.ran)

-- the file of a run
abbrev pub profile_bytes : Form → Setup → Sizes → World → List ℕ
profile_bytes form setup z w = run_text form z w.log setup.rate ++ counts_text setup.blocks z w

-- what a run does that ends in a world: its program's prints, and then its files
abbrev pub run_acts : RunFiles → Setup → Sizes → World → List Act
run_acts files setup z w = w.prints ++ (file_acts files.gmon (profile_bytes files.form setup z w) ++ given_file_acts files.memory (layout_of (block_image z w.log)))

-- what a run does, by the world in which it ends
abbrev pub RunActs : Type 0
RunActs = Sizes → World → List Act

-- what a run has logged fits its file: of each arc the callee and the number of its calls have four bytes
abbrev pub call_fits : RawArc → Bool
call_fits arc = nat_lt arc.to 4294967296 && nat_lt arc.count 4294967296

abbrev pub calls_fit : Sizes → World → Bool
calls_fit z w = list_all call_fits (arcs_of z w.log)

-- A run of a program does acts, its calls fit a file, and then it goes on by the world in which it ends.
abbrev pub run_program : RunActs → Setup → (Sizes → World → Course) → List ℕ → Image → Course
run_program acts setup next bytes image =
    let z = sizes_of image.text setup.hist setup.hash in
    let w = final_world image bytes setup in
    unless start_fault_of (start_refusal image setup) (Does (acts z w) (Knows (calls_fit z w) (next z w)))

-- it is carried out, and sums up its run
abbrev pub sums_up : Sizes → World → Course
sums_up z w = Ends (Ok (record { run = summary_of z w }))

-- the file of a sum
abbrev pub sum_file : List ℕ → Content → Course
sum_file out total = Does (file_acts out (profile_text total)) end_course

-- Which reports are printed, and what they leave out, by name.
pub record Chosen : Type 0 where
  pub shown : Shown
  pub exact : Bool
  -- words FROM/TO, whose calls are left out
  pub cuts : List (List ℕ)
  -- names of functions that have no line or entry of their own
  pub hidden : List (List ℕ)

-- the reports that are asked for are printed, and then it goes on; between both stands an empty line
abbrev pub shown_reports : Shown → List (List ℕ) → Sources → Course → Course
shown_reports shows.Flat hidden s next = Does (Out (flat_text s hidden) ∷ []) next
shown_reports shows.Graph hidden s next = Does (Out (graph_text s hidden) ∷ []) next
shown_reports shows.Both hidden s next = Does (Out (flat_text s hidden) ∷ []) (Does (Out (codes "\n") ∷ []) (Does (Out (graph_text s hidden) ∷ []) next))

-- what the reports of a profile are made from: the profile without the calls that are cut
abbrev pub chosen_sources : Chosen → Image → Content → Sources
chosen_sources chosen image total = profile_sources image (without_cuts total image.symbols chosen.cuts)

-- the times with nothing rounded follow behind an empty line, where they are asked for
abbrev pub exact_report : Bool → Sources → Course → Course
exact_report false s next = next
exact_report true s next =
    Does (Out (codes "\n") ∷ []) (Does (Out (exact_text s.symbols s.graph (exact_flow_in s.graph s.shares.of) (attributed_of s.shares)) ∷ []) next)

-- unless a step of theirs doesn't fit
abbrev pub wide_step : Bool → Sources → Option WideStep
wide_step false s = None
wide_step true s = first_wide s.graph s.shares.of

abbrev pub too_wide : WideStep → Fault
too_wide step = TooWide step.head step.arc

abbrev pub all_reports : Chosen → Sources → Course → Course
all_reports chosen s next =
    unless too_wide (wide_step chosen.exact s) (shown_reports chosen.shown chosen.hidden s (exact_report chosen.exact s next))

-- they are printed, for a program
abbrev pub print_reports : Chosen → Image → Content → Course → Course
print_reports chosen image total next = all_reports chosen (chosen_sources chosen image total) next

-- the profiles of a program are added up and reported
abbrev pub report_profiles : List ℕ → Chosen → List ℕ → Image → Course
report_profiles gmons chosen bytes image = profiles gmons MAX_PROFILE_BYTES empty_content (λ total. print_reports chosen image total end_course)

-- or listed by instructions
abbrev pub list_profiles : List ℕ → List ℕ → Image → Course
list_profiles gmons bytes image = profiles gmons MAX_PROFILE_BYTES empty_content (λ total. Does (Out (annotated_text image bytes total) ∷ []) end_course)

-- the profile of what was logged
abbrev pub logged_profile : Sizes → List LogEntry → ℕ → Content
logged_profile z log rate = content_of (wide_records (log_recs z log rate))

-- a run is reported by what its file says of samples and calls
abbrev pub report_run : ℕ → Chosen → Image → Sizes → World → Course
report_run rate chosen image z w = print_reports chosen image (logged_profile z w.log rate) (sums_up z w)

-- the summary of a demo's run
abbrev pub demo_lines : ℕ → ℕ → Image → Sizes → World → Course
demo_lines functions rate image z w =
    let s = profile_sources image (logged_profile z w.log rate) in
    Does (Out (demo_summary functions (distinct_count (kept_calls z w.log)) s.graph s.flow s.shares (summary_of z w)) ∷ []) (sums_up z w)

-- the lines of a profile file
abbrev pub show_lines : ℕ → Records → Course
show_lines len records = Does (Out (show_text records) ∷ []) end_course

-- the lines of a program
abbrev pub syms_lines : List ℕ → Image → Course
syms_lines bytes image = Does (Out (image_text image) ∷ []) end_course

abbrev pub show_course : ℕ → Course
show_course gmon = profile_file gmon MAX_PROFILE_BYTES show_lines

abbrev pub syms_course : ℕ → Course
syms_course elf = program elf syms_lines

abbrev pub run_course : ℕ → RunFiles → Setup → Course
run_course elf files setup = program elf (run_program (run_acts files setup) setup sums_up)

abbrev pub sum_course : List ℕ → List ℕ → Course
sum_course out gmons = profiles gmons MAX_PROFILE_BYTES empty_content (sum_file out)

abbrev pub report_course : ℕ → List ℕ → Chosen → Course
report_course elf gmons chosen = program elf (report_profiles gmons chosen)

abbrev pub annotate_course : ℕ → List ℕ → Course
annotate_course elf gmons = program elf (list_profiles gmons)

-- a run, and then the report of it
abbrev pub profile_course : ℕ → RunFiles → Setup → Chosen → Course
profile_course elf files setup chosen =
    program elf (λ bytes image. run_program (run_acts files setup) setup (report_run setup.rate chosen image) bytes image)

-- A run whose stacks are printed does each of its program's prints, since memory may run out between two of them, and
-- then tells the stacks of its samples.
abbrev pub stacks_told : Bool → Image → List ℕ → Setup → Course
stacks_told inclusive image bytes setup =
    Does (Out (folded_report inclusive image bytes setup) ∷ []) (sums_up (sizes_of image.text setup.hist setup.hash) (final_world image bytes setup))

abbrev pub fold_program : Bool → Setup → List ℕ → Image → Course
fold_program inclusive setup bytes image =
    unless start_fault_of (start_refusal image setup) (one_by_one (final_world image bytes setup).prints (stacks_told inclusive image bytes setup))

abbrev pub folded_course : ℕ → Bool → Setup → Course
folded_course elf inclusive setup = program elf (fold_program inclusive setup)

-- a text is printed, and nothing else done
abbrev pub text_course : List ℕ → Course
text_course text = Does (Out text ∷ []) end_course

-- the demo program of so many functions is written where a name is given, and run
abbrev pub demo_course : ℕ → Option (List ℕ) → Setup → Course
demo_course functions elf setup =
    let bytes = demo_program functions in
    let image = image_of bytes in
    unless BadElf (elf_refusal bytes) (Does (given_file_acts elf bytes) (run_program (λ z w. w.prints) setup (demo_lines functions setup.rate image) bytes image))

-- the files that words name
abbrev pub files_named : List (List ℕ) → ℕ → Form → Option ℕ → RunFiles
files_named words gmon form memory = record { gmon = nth_word words gmon; form = form; memory = option_map (nth_word words) memory }

abbrev pub chosen_by : List (List ℕ) → Selection → Chosen
chosen_by words selection = record { shown = selection.shown; exact = selection.exact; cuts = words_at words selection.cuts; hidden = words_at words selection.hidden }

abbrev pub command_course : List (List ℕ) → Option Command → Course
command_course words None = refusal_course Usage
command_course words (Some (Show gmon)) = show_course gmon
command_course words (Some (Syms elf)) = syms_course elf
command_course words (Some (Sum out gmons)) = sum_course (nth_word words out) gmons
command_course words (Some (Report elf gmons selection)) = report_course elf gmons (chosen_by words selection)
command_course words (Some (Run elf gmon form memory setup)) = run_course elf (files_named words gmon form memory) setup
command_course words (Some (Profile elf gmon form memory setup selection)) = profile_course elf (files_named words gmon form memory) setup (chosen_by words selection)
command_course words (Some (Demo functions elf setup)) = demo_course functions (option_map (nth_word words) elf) setup
command_course words (Some (Annotate elf gmons)) = annotate_course elf gmons
command_course words (Some (Folded elf inclusive setup)) = folded_course elf inclusive setup
command_course words (Some Help) = text_course help_text
command_course words (Some Version) = text_course version_text

-- what the words ask for
abbrev pub course_of : List (List ℕ) → Course
course_of words = command_course words (command_of words)

-- what the files that the words name hold
abbrev pub contents_of : List (List ℕ) → List File → ℕ → List ℕ
contents_of words files = λ word. file_content (nth_word words word) files

-- what a refusal of a file is for the program
abbrev pub load_fault_of : LoadRefusal → ℕ → ℕ → Fault
load_fault_of loads.ReadFault word limit = ReadFault word
load_fault_of loads.TooLarge word limit = TooLarge word limit
load_fault_of loads.OutOfMemory word limit = OutOfMemory

abbrev pub profile_fault_of : GmonRefusal → ℕ → Fault
profile_fault_of refusals.OutOfMemory word = OutOfMemory
profile_fault_of refusal word = BadProfile refusal word

-- what it is for the program that a file's histograms can't be added up
abbrev pub add_fault_of : AddRefusal → ℕ → Fault
add_fault_of (adding.Unlike unlike) word = Unlike unlike word
add_fault_of adding.OutOfMemory word = OutOfMemory

-- what it is for the program that what was read of a file can't be added up
abbrev pub read_fault_of : ReadRefusal → ℕ → Fault
read_fault_of (reading.File refusal) word = profile_fault_of refusal word
read_fault_of (reading.Profile refusal) word = add_fault_of refusal word

-- and that they can't be added to those of earlier files
abbrev pub sum_fault_of : SumRefusal → ℕ → Fault
sum_fault_of (summing.Unlike unlike) word = Unlike unlike word
sum_fault_of summing.OutOfMemory word = OutOfMemory

abbrev pub elf_fault_of : ElfRefusal → Fault
elf_fault_of elf.OutOfMemory = OutOfMemory
elf_fault_of refusal = BadElf refusal

-- what it is for the program that a report is not printed
abbrev pub report_fault_of : ReportRefusal → Fault
report_fault_of reports.WriteFault = WriteFault
report_fault_of reports.OutOfMemory = OutOfMemory

-- what it is for the program that a run is not folded to its end
abbrev pub fold_fault_of : FoldRefusal → Fault
fold_fault_of folds.HostFailed = WriteFault
fold_fault_of folds.OutOfMemory = OutOfMemory

-- and that a graph's exact times are not found
abbrev pub exact_fault_of : ExactRefusal → Fault
exact_fault_of (exacts.TooWide head arc) = TooWide head arc
exact_fault_of exacts.OutOfMemory = OutOfMemory
