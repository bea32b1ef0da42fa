-- What the commands leave that write or report a profile, where they are carried out.
use Rattle.std.proofs.Common.{arith, ◌≡◌, ◌≢◌, ◌+◌, ◌*◌, ℕ, Bool, true, false, cond, ltb, ◌-◌, List, [], ◌∷◌, ◌++◌, append-nil, append_assoc, length, Option, Some, None, Result, Ok, Err, refl, sym, ap, subst, ◌∙◌}
use Rattle.settings.specs.declared.setup.Setup.{Setup}
use Rattle.std.specs.List.{list_all, All}
use Rattle.mcount_arcs.specs.Arcs.{CallFits}
use Rattle.std.proofs.lemmas.List.Elements.{All-nil}
use Rattle.gp_base.specs.declared.records.RawArc.{RawArc}
use Rattle.std.specs.Prelude.{nat_lt, ◌&&◌, is_ok, option_map, IfSome, MatchOption, ⊤}
use Rattle.std.specs.Result.{IsOk}
use Rattle.std.proofs.lemmas.List.{length-map}
use Rattle.gp_base.specs.declared.records.Form.{Form}
use Rattle.gp_base.specs.declared.records.Records.{Records}
use Rattle.gp_base.specs.declared.limits.TheConstants.{MAX_PROFILE_BYTES}
use Rattle.elf32_syms.specs.declared.image.Image.{Image}
use Rattle.elf32_syms.specs.Refusals.{elf_refusal}
use Rattle.elf32_syms.specs.Image.{image_of}
use Rattle.elf32_syms.specs.Owners.{IsAscending}
use Rattle.elf32_syms.proofs.OrderLemmas.{accepted_within}
use Rattle.gmon_data.specs.Content.{Content, IsProfile, conflict_of, empty_content, wide_records}
use Rattle.gmon_data.specs.Content.{content_of}
use Rattle.gmon_data.specs.Hists.{samples_of}
use Rattle.gmon_data.specs.declared.refusal.Unlike.{Unlike as Difference}
use Rattle.profile_sum.specs.Sum.{sum_of, clash_of}
use Rattle.mcount_arcs.specs.declared.sizes.Sizes.{Sizes}
use Rattle.prof_machine.specs.World.{World}
use Rattle.host_port.specs.Act.{Act, Disk, Out, complaint_of, file_content, disk_after}
use Rattle.annotate.specs.Listing.{annotated_text}
use Rattle.annotate.proofs.CellLemmas.{listing-cells}
use Rattle.host_port.specs.Act.{print_of as prints_of, Err as Complain}
use Rattle.host_port.specs.Outside.{Outside, Becomes, Did, with_openings}
use Rattle.host_port.proofs.Laws.{Becomes-by, Did-then, complained-append, disk_after-append, printed-append}
use Rattle.symbol_shares.specs.Shares.{attributed_of, shares_of}
use Rattle.symbol_shares.proofs.SumLemmas.{all-shared}
use Rattle.call_cycles.specs.Graph.{IsGraph}
use Rattle.call_cycles.specs.Flow.{IsFlow, time_of_roots}
use Rattle.call_cycles.specs.Values.{profile_graph}
use Rattle.call_cycles.proofs.ValueLemmas.{profile_is_graph}
use Rattle.propagate.proofs.SolutionLemmas.{solution}
use Rattle.propagate.proofs.BoundLemmas.{roots_have_all}
use Rattle.propagate.proofs.ProportionLemmas.{parts_all, parts_near}
use Rattle.graph_report.proofs.RootLemmas.{root_entries}
use Rattle.prof_machine.specs.Start.{start_refusal}
use Rattle.prof_machine.specs.Value.{summary_of}
use Rattle.courses.specs.declared.outcome.Done.{Done}
use Rattle.courses.specs.declared.outcome.Fault.{Fault}
use Rattle.courses.specs.declared.outcome.Fault.TheVariants.{BadProfile, TooLarge, Unlike}
use Rattle.command_words.specs.declared.words.Command.{Command}
use Rattle.command_words.specs.declared.words.Command.TheVariants.{Show, Syms, Run, Sum, Report, Profile, Demo, Annotate, Folded, Help, Version}
use Rattle.arc_filter.specs.Cuts.{without_cuts}
use Rattle.flat_report.specs.Sources.{AreOfOne, Sources}
use Rattle.command_words.specs.declared.words.Selection.{Selection}
use Rattle.command_words.specs.declared.words.Shown.{Shown}
use Rattle.command_words.specs.declared.words.Shown.TheVariants as shows
use Rattle.command_words.specs.Items.{nth_word}
use Rattle.command_words.specs.Words.{IsRunSetup, command_of}
use Rattle.courses.specs.Course.{AllKnown, Course, Ends, Input, Does, Reply, one_by_one, unless, behind, reply_to}
use Rattle.gmon_files.specs.Forms.{file_records, file_refusal}
use Rattle.courses.specs.Answer.{Chosen, RunFiles, all_reports, call_fits, annotate_course, chosen_by, chosen_sources, command_course, contents_of, demo_course, demo_lines, end_course, exact_report, file_acts, files_named, fold_program, folded_course, given_file_acts, list_profiles, print_reports, profile_in, profiles, program, report_course, report_profiles, report_run, run_acts, run_program, show_course, show_lines, shown_reports, stacks_told, start_fault_of, sum_file, sums_up, syms_lines, too_wide, wide_step}
use Rattle.demo_elf.specs.Elf.{demo_program}
use Rattle.courses.specs.Reports.{profile_sources}
use Rattle.courses.specs.Contract.{Acted, LineIsPrinted, WhereTold}
use Rattle.courses.specs.FoldedReport.{folded_report}
use Rattle.courses.specs.Help.{help_text, version_text}
use Rattle.rvgprof.specs.Texts.{last_line}
use Rattle.gmon_gnu.specs.ProfileText.{profile_text}
use Rattle.text_lines.specs.Lines.{image_text, show_text}
use Rattle.rvgprof.specs.Acceptance.{IsProgramFile, Starts, IsAccepted}
use Rattle.command_inputs.specs.Totals.{total_of}
use Rattle.rvgprof.specs.Headline.{Answered, DemoLeaves, ExecutionsAreListed, FileHolds, FoldedLeaves, GmonSaysRun, ProfileLeaves, Holds, IsPrinted, asked, Leaves, AnnotateLeaves, ReportLeaves, RunIsSummedUp, RunIsWritten, RunLeaves, ShowLeaves, SumLeaves, SymsLeaves, TimeIsShared, demo_printed, exact_section, printed_text, run_sources, sum_sources, reports_text}
use Rattle.rvgprof.specs.Fitting.{FileFits, SumIsProfile}
use Rattle.rvgprof.specs.RunFile.{FitsFile, SaysProfile, SaysRun, gmon_text, memory_text, reported_profile, text_sizes, end_world}
use Rattle.rvgprof.proofs.AcceptanceLemmas.{accepted}
use Rattle.command_inputs.proofs.Summing.{all_records, nothing_added, total_more}
use Rattle.prof_machine.proofs.PrintLemmas.{files_driven}
use Rattle.rvgprof.proofs.FileLemmas.{file_written, file_stays}
use Rattle.rvgprof.proofs.RunFileLemmas.{profile_files_read_back, run_files_read_back}
use Rattle.courses.proofs.Standing.{further}

-- ---- the sources of each report

module _ (image : Image) (total : Content) where
  graph_of_sources : IsGraph (profile_sources image total).graph
  unfolding profile_sources
  graph_of_sources = profile_is_graph total.arcs image.symbols

  flow_of_sources : IsFlow (profile_sources image total).graph (profile_sources image total).shares.of (profile_sources image total).flow
  unfolding profile_sources
  flow_of_sources = solution (profile_graph total.arcs image.symbols) (shares_of total.hists image.symbols).of (profile_is_graph total.arcs image.symbols)

  all_attributed : time_of_roots (profile_sources image total).graph (profile_sources image total).flow ≡ attributed_of (profile_sources image total).shares
  unfolding profile_sources
  all_attributed = search (profile_is_graph, roots_have_all, length-map, solution)

  -- the samples of functions and those outside
  all_samples : IsAscending image.symbols → attributed_of (profile_sources image total).shares + (profile_sources image total).shares.outside ≡ 1000000 * samples_of total.hists
  unfolding profile_sources
  all_samples ascending = all-shared total.hists image.symbols ascending

  -- its parts are of one program
  of_one : AreOfOne (profile_sources image total)
  unfolding profile_sources
  of_one = search (length-map, profile_is_graph, solution)

-- ---- the acts

-- what is carried out goes on, behind what it reads and what may be refused
module _ (contents : ℕ → List ℕ) where
  abbrev IsDone : Course → Type 0
  IsDone course = IsOk (reply_to contents course).ending

  still_done : (course next : Course) → reply_to contents course ≡ reply_to contents next → IsDone course → IsDone next
  still_done course next same done = subst (λ (r : Reply). IsOk r.ending) same done

  input_goes : (word limit : ℕ) (next : List ℕ → Course) → IsDone (Input word limit next) → reply_to contents (Input word limit next) ≡ reply_to contents (next (contents word))
  input_goes word limit next = by (ltb limit (length (contents word)))
    where
      by : (above : Bool) → IsOk (cond above (record { ending = Err (TooLarge word limit); acts = [] }) (reply_to contents (next (contents word)))).ending
          → cond above (record { ending = Err (TooLarge word limit); acts = [] }) (reply_to contents (next (contents word))) ≡ reply_to contents (next (contents word))
      by true done = absurd cc
      by false done = refl

  unless_goes : {R : Type 0} (fault : R → Fault) (refusal : Option R) (next : Course) → IsDone (unless fault refusal next) → reply_to contents (unless fault refusal next) ≡ reply_to contents next
  unless_goes fault None next done = refl
  unless_goes fault (Some r) next done = absurd cc

  program_goes : (word : ℕ) (next : List ℕ → Image → Course) → IsDone (program word next) → reply_to contents (program word next) ≡ reply_to contents (next (contents word) (image_of (contents word)))
  program_goes word next done = grind arith

  profiles_go : (earlier words : List ℕ) (left : ℕ) (total : Content) (next : Content → Course) → total ≡ content_of (all_records contents earlier)
      → IsDone (profiles words left total next) → reply_to contents (profiles words left total next) ≡ reply_to contents (next (content_of (all_records contents (earlier ++ words))))
  profiles_go earlier [] left total next is done = grind (arith, append-nil)
  profiles_go earlier (word ∷ words) left total next is done =
      let bytes = contents word in
      let records = file_records bytes in
      let fault : Difference → Fault = λ unlike. Unlike unlike word in
      let sum = sum_of total (profile_in records) in
      let rest = profiles words (left - length bytes) sum next in
      let second = unless fault (clash_of total (profile_in records)) rest in
      let first = unless fault (conflict_of empty_content (wide_records records.recs)) second in
      let judged = unless (λ refusal. BadProfile refusal word) (file_refusal bytes) first in
      let added : ℕ → Records → Course = λ n rs. unless fault (conflict_of empty_content (wide_records rs.recs)) (unless fault (clash_of total (profile_in rs)) (profiles words (left - n) (sum_of total (profile_in rs)) next)) in
      let reads : List ℕ → Course = λ b. unless (λ refusal. BadProfile refusal word) (file_refusal b) (added (length b) (file_records b)) in
      let read : reply_to contents (profiles (word ∷ words) left total next) ≡ reply_to contents judged = input_goes word left reads done in
      let one = still_done (profiles (word ∷ words) left total next) judged read done in
      let accepted = unless_goes (λ refusal. BadProfile refusal word) (file_refusal bytes) first one in
      let two = still_done judged first accepted one in
      let itself = unless_goes fault (conflict_of empty_content (wide_records records.recs)) second two in
      let three = still_done first second itself two in
      let others = unless_goes fault (clash_of total (profile_in records)) rest three in
      let four = still_done second rest others three in
      let grouped : (earlier ++ word ∷ []) ++ words ≡ earlier ++ word ∷ words = append_assoc earlier (word ∷ []) words in
      read ∙ accepted ∙ itself ∙ others
      ∙ profiles_go (earlier ++ word ∷ []) words (left - length bytes) sum next (total_more contents earlier word total is) four
      ∙ ap (λ (ws : List ℕ). reply_to contents (next (content_of (all_records contents ws)))) grouped

-- what the reports print, and that they leave the files as they are
module _ (contents : ℕ → List ℕ) (s : Sources) where
  abbrev acts_along : Course → List Act
  acts_along course = (reply_to contents course).acts

  shown_print : (shown : Shown) (hidden : List (List ℕ)) (next : Course) (behind_it : List Act) → prints_of (acts_along (shown_reports shown hidden s next) ++ behind_it) ≡ reports_text shown hidden s ++ prints_of (acts_along next ++ behind_it)
  shown_print shows.Flat hidden next behind_it = refl
  shown_print shows.Graph hidden next behind_it = refl
  shown_print shows.Both hidden next behind_it = search append_assoc

  exact_print : (exact : Bool) (done : Done) (line : List ℕ) → prints_of (acts_along (exact_report exact s (Ends (Ok done))) ++ Complain line ∷ []) ≡ exact_section exact s
  exact_print false done line = refl
  exact_print true done line = search append-nil

  shown_end : (shown : Shown) (hidden : List (List ℕ)) (next : Course) → (reply_to contents (shown_reports shown hidden s next)).ending ≡ (reply_to contents next).ending
  shown_end shows.Flat hidden next = refl
  shown_end shows.Graph hidden next = refl
  shown_end shows.Both hidden next = refl

  exact_end : (exact : Bool) (done : Done) → (reply_to contents (exact_report exact s (Ends (Ok done)))).ending ≡ Ok done
  exact_end false done = refl
  exact_end true done = refl

  shown_complain : (shown : Shown) (hidden : List (List ℕ)) (next : Course) (behind_it : List Act) → complaint_of (acts_along (shown_reports shown hidden s next) ++ behind_it) ≡ complaint_of (acts_along next ++ behind_it)
  shown_complain shows.Flat hidden next behind_it = refl
  shown_complain shows.Graph hidden next behind_it = refl
  shown_complain shows.Both hidden next behind_it = refl

  exact_complain : (exact : Bool) (done : Done) (line : List ℕ) → complaint_of (acts_along (exact_report exact s (Ends (Ok done))) ++ Complain line ∷ []) ≡ line
  exact_complain false done line = append-nil line
  exact_complain true done line = append-nil line

no_prints : (name : Option (List ℕ)) (bytes : List ℕ) → prints_of (given_file_acts name bytes) ≡ []
no_prints None bytes = refl
no_prints (Some name) bytes = refl

no_complaints : (name : Option (List ℕ)) (bytes : List ℕ) → complaint_of (given_file_acts name bytes) ≡ []
no_complaints None bytes = refl
no_complaints (Some name) bytes = refl

-- what is printed of a demo, behind the file of its program
demo_prints : (name : Option (List ℕ)) (bytes : List ℕ) (prints : List Act) (text line : List ℕ) → prints_of ((given_file_acts name bytes ++ (prints ++ Out text ∷ [])) ++ Complain line ∷ []) ≡ prints_of prints ++ text
demo_prints name bytes prints text line = search (printed-append, append-nil, no_prints)

demo_complains : (name : Option (List ℕ)) (bytes : List ℕ) (prints : List Act) (text line : List ℕ) → complaint_of ((given_file_acts name bytes ++ (prints ++ Out text ∷ [])) ++ Complain line ∷ []) ≡ complaint_of prints ++ line
demo_complains name bytes prints text line = search (complained-append, no_complaints, append-nil)

-- the file of a demo's program, behind which none is written
demo_file : (words : List (List ℕ)) (elf : Option ℕ) (word : ℕ) (bytes : List ℕ) (prints : List Act) (text line : List ℕ) (d : Disk)
    → ((x : Disk) → disk_after prints x ≡ x) → elf ≡ Some word
    → file_content (nth_word words word) (disk_after ((given_file_acts (option_map (nth_word words) elf) bytes ++ (prints ++ Out text ∷ [])) ++ Complain line ∷ []) d).files ≡ bytes
demo_file words elf word bytes prints text line d keeps is = grind (arith, disk_after-append, file_written)

-- what the word of an option names holds, is what its name holds
held_by_name : (new : Outside) (words : List (List ℕ)) (word : Option ℕ) (text : List ℕ) → ((place : ℕ) → word ≡ Some place → FileHolds new (nth_word words place) text)
    → IfSome (option_map (nth_word words) word) (λ name. FileHolds new name text)
held_by_name new words None text each = tt
held_by_name new words (Some place) text each = each place refl

told_file : (old new : Option Disk) (f : Disk → Disk) (name text : List ℕ) → Becomes f old new → ((d : Disk) → file_content name (f d).files ≡ text) → IfSome new (λ d. file_content name d.files ≡ text)
told_file old None f name text same holds = tt
told_file None (Some new) f name text same holds = absurd cc
told_file (Some old) (Some new) f name text same holds = grind arith

-- ---- a run

all_fit : (arcs : List RawArc) → list_all call_fits arcs ≡ true → All CallFits arcs
all_fit [] fit = All-nil CallFits
all_fit (arc ∷ arcs) fit = by (nat_lt arc.to 4294967296) (nat_lt arc.count 4294967296) refl refl (λ rest. all_fit arcs rest) fit
  where
    by : (to count : Bool) → nat_lt arc.to 4294967296 ≡ to → nat_lt arc.count 4294967296 ≡ count → (list_all call_fits arcs ≡ true → All CallFits arcs) → ((to && count) && list_all call_fits arcs) ≡ true → All CallFits (arc ∷ arcs)
    by true true to count later rest = grind arith
    by true false to count later rest = absurd cc
    by false count a b later rest = absurd cc

module _ (words : List (List ℕ)) (contents : ℕ → List ℕ) (elf gmon : ℕ) (form : Form) (memory : Option ℕ) (setup : Setup) where
  abbrev bytes : List ℕ
  bytes = contents elf

  abbrev files : RunFiles
  files = files_named words gmon form memory

  abbrev due : List Act
  due = run_acts files setup (text_sizes bytes setup) (end_world bytes setup)

  -- it is carried out up to its end, and goes on
  run_goes : (next : Image → Sizes → World → Course) → IsDone contents (program elf (λ b i. run_program (run_acts files setup) setup (next i) b i))
      → reply_to contents (program elf (λ b i. run_program (run_acts files setup) setup (next i) b i)) ≡ behind due (reply_to contents (next (image_of bytes) (text_sizes bytes setup) (end_world bytes setup)))
  run_goes next done = grind arith

  -- what it has logged fits its file
  run_fits : (next : Image → Sizes → World → Course) → IsProgramFile bytes → Starts bytes setup → IsRunSetup form setup
      → AllKnown contents (program elf (λ b i. run_program (run_acts files setup) setup (next i) b i)) → FitsFile form bytes setup
  run_fits next accepted starts within known = grind (arith, accepted_within, all_fit)

  -- the file that is left, where no file is written behind the run's own
  file_holds : (rest : List Act) (d : Disk) → ((x : Disk) → disk_after rest x ≡ x) → option_map (nth_word words) memory ≢ Some (nth_word words gmon)
      → file_content (nth_word words gmon) (disk_after (due ++ rest) d).files ≡ gmon_text form bytes setup
  file_holds rest d keeps apart = grind (arith, disk_after-append, file_stays, file_written)

  -- the file of the runtime's memory, which is written last
  memory_holds : (rest : List Act) (d : Disk) (place : ℕ) → ((x : Disk) → disk_after rest x ≡ x) → memory ≡ Some place
      → file_content (nth_word words place) (disk_after (due ++ rest) d).files ≡ memory_text bytes setup
  memory_holds rest d place keeps is =
      let prints = (end_world bytes setup).prints in
      let one = file_acts (nth_word words gmon) (gmon_text form bytes setup) in
      let held = memory_text bytes setup in
      let two = given_file_acts (option_map (nth_word words) memory) held in
      let content = λ (x : Disk). file_content (nth_word words place) x.files in
      let behind_prints = disk_after prints d in
      let behind_file = disk_after one behind_prints in
      ap content (disk_after-append (prints ++ (one ++ two)) rest d)
      ∙ ap (λ (x : Disk). content (disk_after rest x)) (disk_after-append prints (one ++ two) d ∙ disk_after-append one two behind_prints)
      ∙ ap content (keeps (disk_after two behind_file))
      ∙ ap (λ (o : Option ℕ). content (disk_after (given_file_acts (option_map (nth_word words) o) held) behind_file)) is
      ∙ file_written (nth_word words place) held behind_file

  -- what is printed on the error output
  run_complains : (rest : List Act) → complaint_of (due ++ rest) ≡ complaint_of (end_world bytes setup).prints ++ complaint_of rest
  run_complains rest = search (complained-append, no_complaints, append-nil)

  -- what is printed
  run_prints : (rest : List Act) → prints_of (due ++ rest) ≡ prints_of (end_world bytes setup).prints ++ prints_of rest
  run_prints rest = search (no_prints, printed-append, append-nil)

-- acts that are done one by one are done
each_done : (contents : ℕ → List ℕ) (acts : List Act) (next : Course) → reply_to contents (one_by_one acts next) ≡ behind acts (reply_to contents next)
each_done contents [] next = refl
each_done contents (act ∷ acts) next = ap (behind (act ∷ [])) (each_done contents acts next)

-- ---- a demo

module _ (contents : ℕ → List ℕ) (functions : ℕ) (elf : Option (List ℕ)) (setup : Setup) where
  -- it is carried out up to its end
  demo_goes : IsDone contents (demo_course functions elf setup)
      → reply_to contents (demo_course functions elf setup)
      ≡ behind (given_file_acts elf (demo_program functions)) (behind (end_world (demo_program functions) setup).prints
      (reply_to contents (demo_lines functions setup.rate (image_of (demo_program functions)) (text_sizes (demo_program functions) setup) (end_world (demo_program functions) setup))))
  demo_goes done = grind arith

-- ---- reports

module _ (contents : ℕ → List ℕ) (chosen : Chosen) (s : Sources) (done : Done) where
  abbrev reports : Course
  reports = shown_reports chosen.shown chosen.hidden s (exact_report chosen.exact s (Ends (Ok done)))

  reports_go : IsDone contents (all_reports chosen s (Ends (Ok done))) → reply_to contents (all_reports chosen s (Ends (Ok done))) ≡ reply_to contents reports
  reports_go goes = unless_goes contents too_wide (wide_step chosen.exact s) reports goes

  reports_end : (reply_to contents reports).ending ≡ Ok done
  reports_end = shown_end contents s chosen.shown chosen.hidden (exact_report chosen.exact s (Ends (Ok done))) ∙ exact_end contents s chosen.exact done

  reports_keep : (line : List ℕ) (d : Disk) → disk_after ((reply_to contents reports).acts ++ Complain line ∷ []) d ≡ d
  reports_keep line d = grind arith

  reports_print : (line : List ℕ) → prints_of ((reply_to contents reports).acts ++ Complain line ∷ []) ≡ printed_text chosen s
  reports_print line =
      shown_print contents s chosen.shown chosen.hidden (exact_report chosen.exact s (Ends (Ok done))) (Complain line ∷ [])
      ∙ ap (λ (text : List ℕ). reports_text chosen.shown chosen.hidden s ++ text) (exact_print contents s chosen.exact done line)

  reports_complain : (line : List ℕ) → complaint_of ((reply_to contents reports).acts ++ Complain line ∷ []) ≡ line
  reports_complain line =
      shown_complain contents s chosen.shown chosen.hidden (exact_report chosen.exact s (Ends (Ok done))) (Complain line ∷ []) ∙ exact_complain contents s chosen.exact done line

time_is_shared : (image : Image) (total : Content) → IsAscending image.symbols → TimeIsShared total.hists (profile_sources image total)
time_is_shared image total ascending =
    let s = profile_sources image total in
    let is = graph_of_sources image total in
    let flow = flow_of_sources image total in
    record {
      all = all_samples image total ascending;
      graph = is;
      flow = flow;
      parts = λ i low out. parts_near s.graph s.shares.of s.flow is flow i low out;
      whole = λ d low some. parts_all s.graph s.shares.of s.flow is flow d some;
      conserved = all_attributed image total;
      entries = root_entries s (of_one image total);
    }

-- no sample is cut
cut_is_shared : (chosen : Chosen) (image : Image) (total : Content) → IsAscending image.symbols → TimeIsShared total.hists (chosen_sources chosen image total)
unfolding without_cuts
cut_is_shared chosen image total ascending = time_is_shared image (without_cuts total image.symbols chosen.cuts) ascending

-- the symbols of a program that is accepted are in order
in_order : (program : List ℕ) → elf_refusal program ≡ None → IsAscending (image_of program).symbols
in_order program accepted = (accepted_within program accepted).ascending

-- ---- what the commands leave

-- how a command ends that ran a program
abbrev ended_with : List ℕ → Setup → Result Done Fault
ended_with program setup = Ok (record { run = summary_of (text_sizes program setup) (end_world program setup) })

-- where the file is told
says_run : (words : List (List ℕ)) (program : List ℕ) (gmon : ℕ) (form : Form) (setup : Setup) (c : Option Disk) → SaysRun form program setup (gmon_text form program setup)
    → IfSome c (λ d. file_content (nth_word words gmon) d.files ≡ gmon_text form program setup) → IfSome c (λ d. SaysRun form program setup (file_content (nth_word words gmon) d.files))
says_run words program gmon form setup None read file = tt
says_run words program gmon form setup (Some d) read file = subst (SaysRun form program setup) (sym file) read

-- where the file is told, the profiles are told too
says_sum : (words : List (List ℕ)) (contents : ℕ → List ℕ) (gmons : List ℕ) (out : ℕ) (f : Disk → Disk) (a c : Option Disk)
    → MatchOption c ⊤ (λ _. IfSome a (λ d. contents ≡ contents_of words d.files))
    → MatchOption c ⊤ (λ _. IfSome a (λ d. IsProfile (total_of (contents_of words d.files) gmons)))
    → IfSome c (λ d. file_content (nth_word words out) d.files ≡ profile_text (total_of contents gmons))
    → Becomes f a c → IfSome c (λ d. SaysProfile (total_of contents gmons) (file_content (nth_word words out) d.files))
says_sum words contents gmons out f a None is_told fits file same = tt
says_sum words contents gmons out f None (Some z) is_told fits file same = absurd cc
says_sum words contents gmons out f (Some x) (Some z) is_told fits file same = grind (arith, profile_files_read_back)

module _ (words : List (List ℕ)) (old mid new : Outside) (done : Done) (acted : Acted words old mid (Ok done)) (last : LineIsPrinted (last_line words (Ok done)) mid new) where
  abbrev contents : ℕ → List ℕ
  contents = acted.owed.contents

  -- the contents are those of the files that are told before and after
  told : WhereTold old new (λ files. contents ≡ contents_of words files)
  told = further _ old.disk mid.disk new.disk (λ files. contents ≡ contents_of words files) last.did.disk acted.owed.told

  well_done : (command : Option Command) → command_of words ≡ command → IsDone contents (command_course words command)
  well_done command said = ap is_ok (ap (λ (r : Reply). r.ending) (ap (reply_to contents) (sym (ap (command_course words) said))) ∙ sym acted.owed.owes.ending)

  all_taken : (command : Option Command) → command_of words ≡ command → IsAccepted words contents command
  all_taken command said = subst (IsAccepted words contents) said ((accepted words contents).0 (ap is_ok (sym acted.owed.owes.ending)))

  -- what is known on the way
  all_known : (command : Option Command) → command_of words ≡ command → AllKnown contents (command_course words command)
  all_known command said = subst (λ (o : Option Command). AllKnown contents (command_course words o)) said acted.owed.owes.known

  -- what was done, by the course
  done_by : (command : Option Command) (reply : Reply) → command_of words ≡ command → reply_to contents (command_course words command) ≡ reply
      → Did (reply.acts ++ Complain last.line ∷ []) (with_openings acted.opens old) new
  done_by command reply said is =
      let acts = acted.owed.owes.acts ∙ ap (λ (r : Reply). r.acts) (ap (reply_to contents) (ap (command_course words) said) ∙ is) in
      subst (λ (acts : List Act). Did (acts ++ Complain last.line ∷ []) (with_openings acted.opens old) new) acts
      (Did-then acted.done (Complain last.line ∷ []) (with_openings acted.opens old) mid new acted.did last.did)

  -- how it ended, by the course
  ended_by : (command : Option Command) (reply : Reply) → command_of words ≡ command → reply_to contents (command_course words command) ≡ reply → Ok done ≡ reply.ending
  ended_by command reply said is = acted.owed.owes.ending ∙ ap (λ (r : Reply). r.ending) (ap (reply_to contents) (ap (command_course words) said) ∙ is)

  -- a run, of which the acts that follow leave all files as they are
  run_is_written : (elf gmon : ℕ) (form : Form) (memory : Option ℕ) (setup : Setup) (rest : List Act) → FitsFile form (contents elf) setup
      → ((x : Disk) → disk_after rest x ≡ x) → Did (due words contents elf gmon form memory setup ++ rest) (with_openings acted.opens old) new
      → RunIsWritten new (asked words contents elf gmon form memory setup)
  run_is_written elf gmon form memory setup rest fits keeps did = record {
    read = run_files_read_back form (contents elf) setup fits;
    file = λ apart. told_file old.disk new.disk _ (nth_word words gmon) (gmon_text form (contents elf) setup) did.disk
        (λ d. file_holds words contents elf gmon form memory setup rest d keeps apart);
    runtime = held_by_name new words memory (memory_text (contents elf) setup)
        (λ place is. told_file old.disk new.disk _ (nth_word words place) (memory_text (contents elf) setup) did.disk (λ d. memory_holds words contents elf gmon form memory setup rest d place keeps is));
  }

  -- and so its file says it
  run_is_said : (elf gmon : ℕ) (form : Form) (memory : Option ℕ) (setup : Setup) → RunIsWritten new (asked words contents elf gmon form memory setup)
      → GmonSaysRun new (asked words contents elf gmon form memory setup)
  run_is_said elf gmon form memory setup written = λ apart. says_run words (contents elf) gmon form setup new.disk written.read (written.file apart)

  -- what acts print was printed
  was_printed : (acts : List Act) (text : List ℕ) → prints_of acts ≡ text → Did acts (with_openings acted.opens old) new → Becomes (λ bytes. bytes ++ text) old.out new.out
  was_printed acts text is did = Becomes-by _ _ old.out new.out (λ b. ap (λ (t : List ℕ). b ++ t) is) did.out

  -- a run, of which the acts that follow print nothing on the error output but the last line
  run_is_summed_up : (program : List ℕ) (setup : Setup) (acts : List Act) → Ok done ≡ ended_with program setup → complaint_of acts ≡ complaint_of (end_world program setup).prints ++ last.line
      → Did acts (with_openings acted.opens old) new → RunIsSummedUp words old new done setup program
  run_is_summed_up program setup acts ending is did = grind arith

  run_leaves : (elf gmon : ℕ) (form : Form) (memory : Option ℕ) (setup : Setup) → command_of words ≡ Some (Run elf gmon form memory setup) → IsRunSetup form setup
      → RunLeaves words old new done (asked words contents elf gmon form memory setup)
  run_leaves elf gmon form memory setup said within =
      let command = Some (Run elf gmon form memory setup) in
      let acts = due words contents elf gmon form memory setup in
      let line = Complain last.line ∷ [] in
      let prints = (end_world (contents elf) setup).prints in
      let taken : IsAccepted words contents command = all_taken command said in
      let reply = run_goes words contents elf gmon form memory setup (λ i. sums_up) (well_done command said) in
      let fits = run_fits words contents elf gmon form memory setup (λ i. sums_up) taken.0 taken.1 within (all_known command said) in
      let did = subst (λ (acts : List Act). Did acts (with_openings acted.opens old) new) (append_assoc acts [] line) (done_by command _ said reply) in
      let written = run_is_written elf gmon form memory setup line fits (λ x. refl) did in
      record {
        runs = record { accepted = taken.0; starts = taken.1 };
        written = written;
        says = run_is_said elf gmon form memory setup written;
        output = was_printed (acts ++ line) _ (run_prints words contents elf gmon form memory setup line ∙ append-nil (prints_of prints)) did;
        run = run_is_summed_up (contents elf) setup (acts ++ line) (ended_by command _ said reply)
            (run_complains words contents elf gmon form memory setup line ∙ ap (λ (text : List ℕ). complaint_of prints ++ text) (append-nil last.line)) did;
      }

  report_leaves : (elf : ℕ) (gmons : List ℕ) (selection : Selection) → command_of words ≡ Some (Report elf gmons selection) → ReportLeaves contents old new elf gmons (chosen_by words selection)
  report_leaves elf gmons selection said =
      let command = Some (Report elf gmons selection) in
      let chosen = chosen_by words selection in
      let image = image_of (contents elf) in
      let total = total_of contents gmons in
      let sources = sum_sources chosen contents elf gmons in
      let taken : IsAccepted words contents command = all_taken command said in
      let goes = well_done command said in
      let read = program_goes contents elf (report_profiles gmons chosen) goes in
      let summed = still_done contents (report_course elf gmons chosen) (report_profiles gmons chosen (contents elf) image) read goes in
      let next : Content → Course = λ t. print_reports chosen image t end_course in
      let added = profiles_go contents [] gmons MAX_PROFILE_BYTES empty_content next nothing_added summed in
      let printed = reports_go contents chosen sources _ (still_done contents (report_profiles gmons chosen (contents elf) image) (next total) added summed) in
      let did = done_by command _ said (read ∙ added ∙ printed) in
      record {
        accepted = taken.0;
        profiles = taken.1;
        output = was_printed _ _ (reports_print contents chosen sources _ last.line) did;
        shared = cut_is_shared chosen image total (in_order (contents elf) taken.0.accepted);
        fits = taken.2;
      }

  listing_leaves : (elf : ℕ) (gmons : List ℕ) → command_of words ≡ Some (Annotate elf gmons) → AnnotateLeaves contents old new elf gmons
  listing_leaves elf gmons said =
      let command = Some (Annotate elf gmons) in
      let program = contents elf in
      let image = image_of program in
      let taken : IsAccepted words contents command = all_taken command said in
      let goes = well_done command said in
      let read = program_goes contents elf (list_profiles gmons) goes in
      let summed = still_done contents (annotate_course elf gmons) (list_profiles gmons program image) read goes in
      let next : Content → Course = λ t. Does (Out (annotated_text image program t) ∷ []) end_course in
      let added = profiles_go contents [] gmons MAX_PROFILE_BYTES empty_content next nothing_added summed in
      let did = done_by command _ said (read ∙ added) in
      record {
        accepted = taken.0;
        profiles = taken.1;
        output = was_printed _ _ (append-nil (annotated_text image program (total_of contents gmons))) did;
        times = listing-cells (total_of contents gmons).hists image.symbols (in_order program taken.0.accepted);
      }

  profile_leaves : (elf gmon : ℕ) (form : Form) (memory : Option ℕ) (setup : Setup) (selection : Selection) → command_of words ≡ Some (Profile elf gmon form memory setup selection) → IsRunSetup form setup
      → ProfileLeaves words old new done (asked words contents elf gmon form memory setup) (chosen_by words selection)
  profile_leaves elf gmon form memory setup selection said within =
      let command = Some (Profile elf gmon form memory setup selection) in
      let chosen = chosen_by words selection in
      let program = contents elf in
      let w = end_world program setup in
      let acts = due words contents elf gmon form memory setup in
      let line = Complain last.line ∷ [] in
      let sources = run_sources chosen program setup in
      let taken : IsAccepted words contents command = all_taken command said in
      let goes = well_done command said in
      let ran = run_goes words contents elf gmon form memory setup (report_run setup.rate chosen) goes in
      let fits = run_fits words contents elf gmon form memory setup (report_run setup.rate chosen) taken.0 taken.1 within (all_known command said) in
      let printed = reports_go contents chosen sources _ (subst (λ (r : Reply). IsOk r.ending) ran goes) in
      let reply = ran ∙ ap (behind acts) printed in
      let printed_last = (reply_to contents (reports contents chosen sources _)).acts in
      let did = subst (λ (acts : List Act). Did acts (with_openings acted.opens old) new) (append_assoc acts printed_last line) (done_by command _ said reply) in
      let written = run_is_written elf gmon form memory setup (printed_last ++ line) fits (reports_keep contents chosen sources _ last.line) did in
      record {
        headline = record {
          runs = record { accepted = taken.0; starts = taken.1 };
          says = run_is_said elf gmon form memory setup written;
          shared = cut_is_shared chosen (image_of program) (reported_profile program setup) (in_order program taken.0.accepted);
        };
        written = written;
        output = was_printed (acts ++ (printed_last ++ line)) _ (run_prints words contents elf gmon form memory setup (printed_last ++ line)
            ∙ ap (λ (text : List ℕ). prints_of w.prints ++ text) (reports_print contents chosen sources _ last.line)) did;
        run = run_is_summed_up program setup (acts ++ (printed_last ++ line)) (ended_by command _ said reply ∙ reports_end contents chosen sources _)
            (run_complains words contents elf gmon form memory setup (printed_last ++ line) ∙ ap (λ (text : List ℕ). complaint_of w.prints ++ text) (reports_complain contents chosen sources _ last.line)) did;
        fits = taken.2;
      }

  demo_leaves : (functions : ℕ) (elf : Option ℕ) (setup : Setup) → command_of words ≡ Some (Demo functions elf setup) → DemoLeaves words old new done functions elf setup
  demo_leaves functions elf setup said =
      let command = Some (Demo functions elf setup) in
      let name = option_map (nth_word words) elf in
      let bytes = demo_program functions in
      let prints = (end_world bytes setup).prints in
      let taken : IsAccepted words contents command = all_taken command said in
      let reply = demo_goes contents functions name setup (well_done command said) in
      let did = done_by command _ said reply in
      record {
        file = λ word is. told_file old.disk new.disk _ (nth_word words word) bytes did.disk
            (λ d. demo_file words elf word bytes prints (demo_printed functions setup) last.line d (files_driven (image_of bytes) bytes setup) is);
        output = was_printed _ _ (demo_prints name bytes prints (demo_printed functions setup) last.line) did;
        run = run_is_summed_up bytes setup _ (ended_by command _ said reply) (demo_complains name bytes prints (demo_printed functions setup) last.line) did;
        shared = time_is_shared (image_of bytes) (reported_profile bytes setup) (in_order bytes taken.0);
      }

  -- a text is all that was printed
  text_leaves : (command : Command) (text : List ℕ) → command_of words ≡ Some command
      → reply_to contents (command_course words (Some command)) ≡ record { ending = Ok (record { run = None }); acts = Out text ∷ [] } → IsPrinted text old new
  text_leaves command text said is = was_printed _ _ (append-nil text) (done_by (Some command) _ said is)

  show_leaves : (gmon : ℕ) → command_of words ≡ Some (Show gmon) → ShowLeaves contents old new gmon
  show_leaves gmon said =
      let goes = well_done (Some (Show gmon)) said in
      let read = input_goes contents gmon MAX_PROFILE_BYTES (λ b. unless (λ refusal. BadProfile refusal gmon) (file_refusal b) (show_lines (length b) (file_records b))) goes in
      let judged = unless (λ refusal. BadProfile refusal gmon) (file_refusal (contents gmon)) (show_lines (length (contents gmon)) (file_records (contents gmon))) in
      let accepted = unless_goes contents (λ refusal. BadProfile refusal gmon) (file_refusal (contents gmon)) (show_lines (length (contents gmon)) (file_records (contents gmon)))
      (still_done contents (show_course gmon) judged read goes) in
      record {
        accepted = all_taken (Some (Show gmon)) said;
        output = text_leaves (Show gmon) (show_text (file_records (contents gmon))) said (read ∙ accepted);
      }

  syms_leaves : (elf : ℕ) → command_of words ≡ Some (Syms elf) → SymsLeaves contents old new elf
  syms_leaves elf said = record {
    accepted = all_taken (Some (Syms elf)) said;
    output = text_leaves (Syms elf) (image_text (image_of (contents elf))) said (program_goes contents elf syms_lines (well_done (Some (Syms elf)) said));
  }

  sum_leaves : (out : ℕ) (gmons : List ℕ) → command_of words ≡ Some (Sum out gmons) → SumIsProfile words old new gmons → SumLeaves words contents old new out gmons
  sum_leaves out gmons said fits =
      let command = Some (Sum out gmons) in
      let total = total_of contents gmons in
      let text = profile_text total in
      let line = Complain last.line ∷ [] in
      let added = profiles_go contents [] gmons MAX_PROFILE_BYTES empty_content (sum_file (nth_word words out)) nothing_added (well_done command said) in
      let did = done_by command _ said added in
      let file : Holds words new out text = told_file old.disk new.disk _ (nth_word words out) text did.disk (λ d. file_written (nth_word words out) text d) in
      record {
        profiles = all_taken command said;
        file = file;
        says = says_sum words contents gmons out _ old.disk new.disk told fits file did.disk;
        output = was_printed (file_acts (nth_word words out) text ++ line) [] refl did;
      }

  folded_leaves : (elf : ℕ) (inclusive : Bool) (setup : Setup) → command_of words ≡ Some (Folded elf inclusive setup) → FoldedLeaves words contents old new done elf inclusive setup
  folded_leaves elf inclusive setup said =
      let command = Some (Folded elf inclusive setup) in
      let bytes = contents elf in
      let image = image_of bytes in
      let prints = (end_world bytes setup).prints in
      let text = folded_report inclusive image bytes setup in
      let taken : IsAccepted words contents command = all_taken command said in
      let goes = well_done command said in
      let read = program_goes contents elf (fold_program inclusive setup) goes in
      let started = unless_goes contents start_fault_of (start_refusal image setup) (one_by_one prints (stacks_told inclusive image bytes setup))
      (still_done contents (folded_course elf inclusive setup) (fold_program inclusive setup bytes image) read goes) in
      let reply = read ∙ started ∙ each_done contents prints (stacks_told inclusive image bytes setup) in
      let did = done_by command _ said reply in
      record {
        runs = record { accepted = taken.0; starts = taken.1 };
        output = was_printed _ _ (demo_prints None bytes prints text last.line) did;
        run = run_is_summed_up bytes setup _ (ended_by command _ said reply) (demo_complains None bytes prints text last.line) did;
      }

  leaves_by : (command : Option Command) → command_of words ≡ command → FileFits words old new command → Leaves words contents old new done command
  leaves_by None said fits = all_taken None said
  leaves_by (Some (Show gmon)) said fits = show_leaves gmon said
  leaves_by (Some (Syms elf)) said fits = syms_leaves elf said
  leaves_by (Some (Sum out gmons)) said fits = sum_leaves out gmons said fits
  leaves_by (Some (Report elf gmons selection)) said fits = report_leaves elf gmons selection said
  leaves_by (Some (Run elf gmon form memory setup)) said fits = run_leaves elf gmon form memory setup said fits
  leaves_by (Some (Profile elf gmon form memory setup selection)) said fits = profile_leaves elf gmon form memory setup selection said fits
  leaves_by (Some (Demo functions elf setup)) said fits = demo_leaves functions elf setup said
  leaves_by (Some (Annotate elf gmons)) said fits = listing_leaves elf gmons said
  leaves_by (Some (Folded elf inclusive setup)) said fits = folded_leaves elf inclusive setup said
  leaves_by (Some Help) said fits = text_leaves Help help_text said refl
  leaves_by (Some Version) said fits = text_leaves Version version_text said refl

pub executions_listed : ExecutionsAreListed
executions_listed program setup contents gmon i says counts below = grind (arith, append-nil)

-- what a command leaves, once the last line was printed behind what it did
pub carried_out : (words : List (List ℕ)) (old mid new : Outside) (done : Done) → Acted words old mid (Ok done) → LineIsPrinted (last_line words (Ok done)) mid new → FileFits words old new (command_of words)
    → Answered words old new (Ok done)
carried_out words old mid new done acted last fits = record {
  before = mid;
  acted = acted;
  line = last;
  leaves = leaves_by words old mid new done acted last (command_of words) refl fits;
}
