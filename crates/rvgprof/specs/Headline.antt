-- What each command leaves where it is carried out, in sentences of several parts: the file, both outputs, the summary,
-- and the time in the report. What is said of inputs is said of the contents that the answer is for: those of the files
-- where the host tells them before and after, and else some.
use Rattle.std.specs.Prelude.{◌≡◌, ◌≢◌, ◌<◌, ◌+◌, ◌*◌, ◌&&◌, ℕ, slice_index, Bool, true, false, List, [], ◌∷◌, ◌++◌, codes, Option, Some, None, option_map, Result, Ok, IfOk, IfSome}
use Rattle.std.specs.List.{sum_by}
use Rattle.elf32_syms.specs.Image.{image_of}
use Rattle.gp_base.specs.declared.records.Form.{Form}
use Rattle.gp_base.specs.declared.records.Form.TheVariants.{Gnu}
use Rattle.settings.specs.declared.setup.Setup.{Setup}
use Rattle.gmon_data.specs.declared.hist.Hist.{Hist}
use Rattle.gmon_data.specs.Content.{runs_at}
use Rattle.gmon_data.specs.Hists.{samples_of}
use Rattle.gmon_files.specs.Forms.{file_records}
use Rattle.gmon_gnu.specs.ProfileText.{profile_text}
use Rattle.annotate.specs.Cells.{cells_of}
use Rattle.annotate.specs.Listing.{annotated_text}
use Rattle.text_lines.specs.Lines.{image_text, show_text}
use Rattle.host_port.specs.Act.{complaint_of, file_content}
use Rattle.host_port.specs.Act.{print_of as prints_of}
use Rattle.host_port.specs.Outside.{Outside, Becomes}
use Rattle.symbol_shares.specs.Ranges.{grains_of_range}
use Rattle.symbol_shares.specs.Shares.{attributed_of, shares_of}
use Rattle.call_cycles.specs.Graph.{IsGraph, arc_at, arc_count, component_count, entering_of, is_outside, target_of}
use Rattle.call_cycles.specs.Flow.{IsFlow, is_root, time_of_roots}
use Rattle.call_cycles.specs.Sums.{sum_below, when}
use Rattle.propagate.specs.Proportion.{IsInProportion, carried_to}
use Rattle.flat_report.specs.Sources.{Sources}
use Rattle.flat_report.specs.FlatText.{flat_text}
use Rattle.graph_report.specs.GraphText.{graph_text}
use Rattle.graph_report.specs.ExactText.{exact_text}
use Rattle.graph_report.specs.Roots.{has_own_entry, shown_total}
use Rattle.exact_flow.specs.Solution.{exact_flow_in}
use Rattle.prof_machine.specs.Executions.{executions_at, instructions_of}
use Rattle.prof_machine.specs.Value.{summary_of}
use Rattle.courses.specs.declared.outcome.Done.{Done}
use Rattle.courses.specs.declared.outcome.Fault.{Fault}
use Rattle.command_words.specs.declared.words.Command.{Command}
use Rattle.command_words.specs.declared.words.Command.TheVariants.{Show, Syms, Run, Sum, Report, Profile, Demo, Annotate, Folded, Help, Version}
use Rattle.command_words.specs.declared.words.Shown.{Shown}
use Rattle.command_words.specs.declared.words.Shown.TheVariants as shows
use Rattle.command_words.specs.Items.{nth_word}
use Rattle.command_words.specs.Words.{command_of}
use Rattle.demo_elf.specs.Elf.{demo_program}
use Rattle.mcount_arcs.specs.Log.{distinct_count, kept_calls}
use Rattle.courses.specs.Reports.{demo_summary, profile_sources}
use Rattle.rvgprof.specs.Texts.{last_line}
use Rattle.courses.specs.Answer.{Chosen, chosen_by, chosen_sources, wide_step}
use Rattle.courses.specs.Contract.{Acted, LineEnds, LineIsPrinted}
use Rattle.courses.specs.FoldedReport.{folded_report}
use Rattle.courses.specs.Help.{help_text, version_text}
use Rattle.rvgprof.specs.RunFile.{SaysProfile, SaysRun, gmon_text, memory_text, reported_profile, text_sizes, end_world}
use Rattle.rvgprof.specs.Acceptance.{IsProfileFile, IsProgramFile, AreProfileFiles, Starts}
use Rattle.command_inputs.specs.Totals.{total_of}

-- what is reported of a run: its samples and calls, as its file says them (`SaysRun`), without the calls that are cut
abbrev pub run_sources : Chosen → List ℕ → Setup → Sources
run_sources chosen program setup = chosen_sources chosen (image_of program) (reported_profile program setup)

-- the reports that are asked for; between both stands an empty line
abbrev pub reports_text : Shown → List (List ℕ) → Sources → List ℕ
reports_text shows.Flat hidden s = flat_text s hidden
reports_text shows.Graph hidden s = graph_text s hidden
reports_text shows.Both hidden s = flat_text s hidden ++ (codes "\n" ++ graph_text s hidden)

-- where they are asked for, behind an empty line, the times that flow from the shares with nothing rounded
abbrev pub exact_section : Bool → Sources → List ℕ
exact_section false s = []
exact_section true s = codes "\n" ++ exact_text s.symbols s.graph (exact_flow_in s.graph s.shares.of) (attributed_of s.shares)

-- the reports, and then these
abbrev pub printed_text : Chosen → Sources → List ℕ
printed_text chosen s = reports_text chosen.shown chosen.hidden s ++ exact_section chosen.exact s

-- A run that words ask for: of which program, how, and where its files go, by their names.
pub record Asked : Type 0 where
  -- the bytes of the program's file
  pub program : List ℕ
  pub setup : Setup
  -- GMON, and the form of its file
  pub gmon : List ℕ
  pub form : Form
  -- the file that `--image` names, for the memory of the runtime
  pub memory : Option (List ℕ)

-- the one that the words of `run` and `profile` ask for; ELF, GMON and the word of `--image` are positions of words
abbrev pub asked : List (List ℕ) → (ℕ → List ℕ) → ℕ → ℕ → Form → Option ℕ → Setup → Asked
asked words contents elf gmon form memory setup =
    record { program = contents elf; setup = setup; gmon = nth_word words gmon; form = form; memory = option_map (nth_word words) memory }

-- The name of `--image`, where there is one, isn't that of GMON: what is said of GMON's file is said where the memory of
-- the runtime isn't written into it. Two words that differ are taken for two files.
abbrev pub NamesDiffer : Asked → Type 0
NamesDiffer r = r.memory ≢ Some r.gmon

-- where the output is told: a text was printed on it, and nothing else
abbrev pub IsPrinted : List ℕ → Outside → Outside → Type 0
IsPrinted text old new = Becomes (λ bytes. bytes ++ text) old.out new.out

-- where the files are told, the one of a name holds a text
abbrev pub FileHolds : Outside → List ℕ → List ℕ → Type 0
FileHolds new name text = IfSome new.disk (λ d. file_content name d.files ≡ text)

-- the one that a word names, by its position
abbrev pub Holds : List (List ℕ) → Outside → ℕ → List ℕ → Type 0
Holds words new word text = FileHolds new (nth_word words word) text

-- A program is accepted, and nothing refuses the start of a run of it.
pub record Runs (program : List ℕ) (setup : Setup) : Type 0 where
  pub accepted : IsProgramFile program
  pub starts : Starts program setup

-- Where the files are told, GMON says the run: its samples in each bucket, up to 65,535, and its calls by pairs, as many
-- as arcs have room for, the latest first of each call site (`SaysRun`).
abbrev pub GmonSaysRun : Outside → Asked → Type 0
GmonSaysRun new r = NamesDiffer r → IfSome new.disk (λ d. SaysRun r.form r.program r.setup (file_content r.gmon d.files))

-- The file of a run is written, and that of its runtime's memory where one is named.
pub record RunIsWritten (new : Outside) (r : Asked) : Type 0 where
  -- the file of the run is read as its records, and what it says is what is reported
  pub read : SaysRun r.form r.program r.setup (gmon_text r.form r.program r.setup)
  -- GMON holds it, where `--image` names no file or another
  pub file : NamesDiffer r → FileHolds new r.gmon (gmon_text r.form r.program r.setup)
  -- the file that is named for it holds the memory of the runtime, also where that is GMON
  pub runtime : IfSome r.memory (λ name. FileHolds new name (memory_text r.program r.setup))

-- A run is summed up: in the answer, and in the end line, of which a prefix is printed where complaining fails.
pub record RunIsSummedUp (words : List (List ℕ)) (old new : Outside) (done : Done)
    (setup : Setup) (program : List ℕ) : Type 0 where
  pub summary : done.run ≡ summary_of (text_sizes program setup) (end_world program setup)
  -- what was printed of the end line
  pub line : List ℕ
  pub ends : LineEnds line (last_line words (Ok done)) old.err_faults new.err_faults
  -- what the program prints on the error output stands before the line
  pub errors : Becomes (λ bytes. bytes ++ (complaint_of (end_world program setup).prints ++ line)) old.err new.err

-- an arc carries its part of both times of the component that it enters, each but for less than a grain
abbrev pub ArcIsInProportion : Sources → ℕ → Type 0
ArcIsInProportion s i =
    let d = target_of s.graph i in
    IsInProportion (slice_index s.flow.arc_self i) (slice_index s.flow.self d) (arc_at s.graph i).count (entering_of s.graph d)
    × IsInProportion (slice_index s.flow.arc_child i) (slice_index s.flow.child d) (arc_at s.graph i).count (entering_of s.graph d)

-- the arcs that enter a component carry all of both
abbrev pub CallersGetAll : Sources → ℕ → Type 0
CallersGetAll s d = (carried_to s.graph (slice_index s.flow.arc_self) d ≡ slice_index s.flow.self d) × (carried_to s.graph (slice_index s.flow.arc_child) d ≡ slice_index s.flow.child d)

-- The time of what reports are made from is shared out, in grains, of which a million are a sample of the histograms.
pub record TimeIsShared (hists : List Hist) (s : Sources) : Type 0 where
  -- what is attributed to functions and what is outside them, both of which the second line of a flat profile shows, are
  -- together all samples
  pub all : attributed_of s.shares + s.shares.outside ≡ 1000000 * samples_of hists
  -- functions, arcs and components are a graph, and its times solve the equations of `IsFlow` ..
  pub graph : IsGraph s.graph
  pub flow : IsFlow s.graph s.shares.of s.flow
  -- .. of an arc from one component to another each part is its callee's component's time in proportion to the calls, but
  -- for less than a grain ..
  pub parts : (i : ℕ) → i < arc_count s.graph → is_outside s.graph i ≡ true → ArcIsInProportion s i
  -- .. and the callers together get all of it
  pub whole : (d : ℕ) → d < component_count s.graph → entering_of s.graph d ≢ 0 → CallersGetAll s d
  -- the components that none outside them calls have together all that is attributed ..
  pub conserved : time_of_roots s.graph s.flow ≡ attributed_of s.shares
  -- .. and so have their entries in the call graph, of a cycle that of the whole, hidden ones too
  pub entries : sum_below (component_count s.graph) (λ c. when (is_root s.graph c && has_own_entry s c) (shown_total s c)) ≡ attributed_of s.shares

-- what `run` leaves
pub record RunLeaves (words : List (List ℕ)) (old new : Outside) (done : Done) (r : Asked) : Type 0 where
  pub runs : Runs r.program r.setup
  pub written : RunIsWritten new r
  pub says : GmonSaysRun new r
  -- what the program prints on the output was printed
  pub output : IsPrinted (prints_of (end_world r.program r.setup).prints) old new
  pub run : RunIsSummedUp words old new done r.setup r.program

-- what is reported of files: the sum of what they say, without the calls that are cut
abbrev pub sum_sources : Chosen → (ℕ → List ℕ) → ℕ → List ℕ → Sources
sum_sources chosen contents elf gmons = chosen_sources chosen (image_of (contents elf)) (total_of contents gmons)

-- what `report` leaves
pub record ReportLeaves (contents : ℕ → List ℕ) (old new : Outside) (elf : ℕ) (gmons : List ℕ)
    (chosen : Chosen) : Type 0 where
  pub accepted : IsProgramFile (contents elf)
  pub profiles : AreProfileFiles contents gmons
  -- the reports were printed
  pub output : IsPrinted (printed_text chosen (sum_sources chosen contents elf gmons)) old new
  pub shared : TimeIsShared (total_of contents gmons).hists (sum_sources chosen contents elf gmons)
  -- no step of the exact times is too wide, where these are asked for
  pub fits : wide_step chosen.exact (sum_sources chosen contents elf gmons) ≡ None

-- what `annotate` leaves: the listing of the sum of what its files say
pub record AnnotateLeaves (contents : ℕ → List ℕ) (old new : Outside) (elf : ℕ) (gmons : List ℕ) : Type 0 where
  pub accepted : IsProgramFile (contents elf)
  pub profiles : AreProfileFiles contents gmons
  pub output : IsPrinted (annotated_text (image_of (contents elf)) (contents elf) (total_of contents gmons)) old new
  -- the grains of all cells are what is attributed to all functions
  pub times : sum_by (λ s. sum_by (λ cell. grains_of_range (total_of contents gmons).hists cell.low cell.high) (cells_of s)) (image_of (contents elf)).symbols
      ≡ attributed_of (shares_of (total_of contents gmons).hists (image_of (contents elf)).symbols)

-- what `sum` leaves
pub record SumLeaves (words : List (List ℕ)) (contents : ℕ → List ℕ) (old new : Outside) (out : ℕ)
    (gmons : List ℕ) : Type 0 where
  pub profiles : AreProfileFiles contents gmons
  -- OUT holds the file of the sum ..
  pub file : Holds words new out (profile_text (total_of contents gmons))
  -- .. which is read back as the sum
  pub says : IfSome new.disk
      (λ d. SaysProfile (total_of contents gmons) (file_content (nth_word words out) d.files))
  -- nothing was printed
  pub output : IsPrinted [] old new

-- what `show` leaves: the records of its file as lines
pub record ShowLeaves (contents : ℕ → List ℕ) (old new : Outside) (gmon : ℕ) : Type 0 where
  pub accepted : IsProfileFile (contents gmon)
  pub output : IsPrinted (show_text (file_records (contents gmon))) old new

-- what `syms` leaves: the entry, the text, the hooks and the symbols of its program as lines
pub record SymsLeaves (contents : ℕ → List ℕ) (old new : Outside) (elf : ℕ) : Type 0 where
  pub accepted : IsProgramFile (contents elf)
  pub output : IsPrinted (image_text (image_of (contents elf))) old new

-- what `folded` leaves: what the program prints, and behind it the text of its samples' stacks, or of their functions
pub record FoldedLeaves (words : List (List ℕ)) (contents : ℕ → List ℕ) (old new : Outside) (done : Done)
    (elf : ℕ) (inclusive : Bool) (setup : Setup) : Type 0 where
  pub runs : Runs (contents elf) setup
  pub output : IsPrinted (prints_of (end_world (contents elf) setup).prints
      ++ folded_report inclusive (image_of (contents elf)) (contents elf) setup) old new
  pub run : RunIsSummedUp words old new done setup (contents elf)

-- In the profile of one file that says a run which counted executions, as `profile` leaves it, the executions at an
-- instruction's address are how often it retired in that run. A cell of the listing shows these (`cell_line`).
abbrev pub ExecutionsAreListed : Type 0
ExecutionsAreListed = (program : List ℕ) (setup : Setup) (contents : ℕ → List ℕ) (gmon i : ℕ) → SaysRun Gnu program setup (contents gmon) → setup.blocks ≡ true → i < instructions_of (text_sizes program setup)
    → runs_at ((text_sizes program setup).low + 4 * i) (total_of contents (gmon ∷ [])).blocks ≡ executions_at (end_world program setup).ran ((text_sizes program setup).low + 4 * i)

-- The headline, of `profile`.
pub record Headline (new : Outside) (r : Asked) (chosen : Chosen) : Type 0 where
  -- for an accepted program, with its budget and its schedule of harts ..
  pub runs : Runs r.program r.setup
  -- .. the written gmon.out holds each bucket's samples up to 65,535 and, until arcs run out, each pair's entered calls,
  -- latest first per call site ..
  pub says : GmonSaysRun new r
  -- .. and in the report, which is made from these, every caller's share is its callee's time in proportion to calls, and
  -- the entries without outside callers together hold every attributed sample
  pub shared : TimeIsShared (reported_profile r.program r.setup).hists (run_sources chosen r.program r.setup)

-- what `profile` leaves
pub record ProfileLeaves (words : List (List ℕ)) (old new : Outside) (done : Done) (r : Asked) (chosen : Chosen) : Type 0 where
  pub headline : Headline new r chosen
  pub written : RunIsWritten new r
  -- what the program prints, and then the reports, were printed
  pub output : IsPrinted (prints_of (end_world r.program r.setup).prints ++ printed_text chosen (run_sources chosen r.program r.setup)) old new
  pub run : RunIsSummedUp words old new done r.setup r.program
  -- no step of the exact times is too wide, where these are asked for
  pub fits : wide_step chosen.exact (run_sources chosen r.program r.setup) ≡ None

-- what a demo's summary is made from
abbrev pub demo_sources : ℕ → Setup → Sources
demo_sources functions setup = profile_sources (image_of (demo_program functions)) (reported_profile (demo_program functions) setup)

-- the summary: how its run went, its calls and cycles, all grains that are attributed, and those of the components that
-- none calls from outside
abbrev pub demo_printed : ℕ → Setup → List ℕ
demo_printed functions setup =
    let z = text_sizes (demo_program functions) setup in
    let w = end_world (demo_program functions) setup in
    let s = demo_sources functions setup in
    demo_summary functions (distinct_count (kept_calls z w.log)) s.graph s.flow s.shares (summary_of z w)

-- what `demo` leaves
pub record DemoLeaves (words : List (List ℕ)) (old new : Outside) (done : Done) (functions : ℕ)
    (elf : Option ℕ) (setup : Setup) : Type 0 where
  -- the file that is named for it holds its program
  pub file : (word : ℕ) → elf ≡ Some word → Holds words new word (demo_program functions)
  -- what its program prints, and then the summary, were printed
  pub output : IsPrinted (prints_of (end_world (demo_program functions) setup).prints
      ++ demo_printed functions setup) old new
  pub run : RunIsSummedUp words old new done setup (demo_program functions)
  -- the grains that are attributed are those of the components that none calls: the two numbers in the summary
  pub shared : TimeIsShared (reported_profile (demo_program functions) setup).hists (demo_sources functions setup)

-- what a command leaves where it is carried out; words without a reading never are
abbrev pub Leaves : List (List ℕ) → (ℕ → List ℕ) → Outside → Outside → Done → Option Command → Type 0
Leaves words contents old new done None = ⊥
Leaves words contents old new done (Some (Show gmon)) = ShowLeaves contents old new gmon
Leaves words contents old new done (Some (Syms elf)) = SymsLeaves contents old new elf
Leaves words contents old new done (Some (Sum out gmons)) = SumLeaves words contents old new out gmons
Leaves words contents old new done (Some (Report elf gmons selection)) =
    ReportLeaves contents old new elf gmons (chosen_by words selection)
Leaves words contents old new done (Some (Run elf gmon form memory setup)) =
    RunLeaves words old new done (asked words contents elf gmon form memory setup)
Leaves words contents old new done (Some (Profile elf gmon form memory setup selection)) =
    ProfileLeaves words old new done (asked words contents elf gmon form memory setup) (chosen_by words selection)
Leaves words contents old new done (Some (Demo functions elf setup)) = DemoLeaves words old new done functions elf setup
Leaves words contents old new done (Some (Annotate elf gmons)) = AnnotateLeaves contents old new elf gmons
Leaves words contents old new done (Some (Folded elf inclusive setup)) =
    FoldedLeaves words contents old new done elf inclusive setup
Leaves words contents old new done (Some Help) = IsPrinted help_text old new
Leaves words contents old new done (Some Version) = IsPrinted version_text old new

-- What the program answers, and what it leaves.
pub record Answered (words : List (List ℕ)) (old new : Outside) (result : Result Done Fault) : Type 0 where
  -- the moment before the last line
  pub before : Outside
  pub acted : Acted words old before result
  pub line : LineIsPrinted (last_line words result) before new
  -- for the inputs with the contents that the answer is for
  pub leaves : IfOk result (λ done. Leaves words acted.owed.contents old new done (command_of words))
