-- What is told of a run: something exactly where a command starts one; and that no refusal of a file is want of memory.
use Rattle.std.proofs.Common.{◌≡◌, ℕ, ◌-◌, Bool, true, false, cond, ltb, List, [], ◌∷◌, length, Option, Some, None, Result, Ok, Err, refl, sym, subst}
use Rattle.std.specs.Prelude.{is_some, IsSome, IfErr, IfOk, MatchResult}
use Rattle.std.specs.Option.{option_map}
use Rattle.gp_base.specs.declared.records.Records.{Records}
use Rattle.host_port.specs.Outside.{Outside}
use Rattle.elf32_syms.specs.declared.image.Image.{Image}
use Rattle.elf32_syms.specs.Refusals.{elf_refusal}
use Rattle.elf32_syms.specs.Image.{image_of}
use Rattle.settings.specs.declared.setup.Setup.{Setup}
use Rattle.settings.specs.Setup.{IsSetup}
use Rattle.gmon_data.specs.Content.{Content, conflict_of, empty_content, wide_records}
use Rattle.gmon_data.specs.declared.refusal.Unlike.{Unlike as Difference}
use Rattle.gp_base.specs.declared.limits.TheConstants.{MAX_PROFILE_BYTES}
use Rattle.profile_sum.specs.Sum.{sum_of, clash_of}
use Rattle.demo_elf.specs.Elf.{demo_program}
use Rattle.mcount_arcs.specs.declared.sizes.Sizes.{Sizes}
use Rattle.mcount_arcs.specs.Sizes.{sizes_of}
use Rattle.prof_machine.specs.declared.summary.End.{End}
use Rattle.prof_machine.specs.Start.{final_world, start_refusal}
use Rattle.prof_machine.specs.World.{World}
use Rattle.prof_machine.proofs.RunLemmas.{plan_ends}
use Rattle.courses.specs.declared.outcome.Done.{Done}
use Rattle.courses.specs.declared.outcome.Fault.{Fault}
use Rattle.courses.specs.declared.outcome.Fault.TheVariants.{BadElf, BadProfile, Unlike, TooLarge}
use Rattle.command_words.specs.declared.words.Command.{Command}
use Rattle.command_words.specs.declared.words.Command.TheVariants.{Show, Syms, Run, Sum, Report, Profile, Demo, Annotate, Folded, Help, Version}
use Rattle.command_words.specs.declared.words.Shown.{Shown}
use Rattle.command_words.specs.declared.words.Shown.TheVariants as shows
use Rattle.command_words.specs.Words.{command_of, IsCommandOf}
use Rattle.courses.specs.Course.{Course, Input, Does, one_by_one, unless, reply_to}
use Rattle.command_words.specs.Items.{nth_word}
use Rattle.annotate.specs.Listing.{annotated_text}
use Rattle.flat_report.specs.Sources.{Sources}
use Rattle.host_port.specs.Act.{Act, Out}
use Rattle.gmon_files.specs.Forms.{file_refusal}
use Rattle.courses.specs.Answer.{Chosen, RunActs, chosen_by, command_course, course_of, demo_lines, end_course, exact_report, files_named, fold_program, given_file_acts, list_profiles, print_reports, profile_file, profile_in, profiles, program, report_profiles, report_run, run_acts, run_program, show_lines, shown_reports, stacks_told, start_fault_of, sum_file, syms_lines, sums_up, logged_profile}
use Rattle.elf32_syms.specs.declared.refusal.ElfRefusal.{ElfRefusal}
use Rattle.elf32_syms.specs.declared.refusal.ElfRefusal.TheVariants as elf
use Rattle.gp_base.specs.declared.refusal.GmonRefusal.{GmonRefusal}
use Rattle.gp_base.specs.declared.refusal.GmonRefusal.TheVariants as gmons
use Rattle.prof_machine.specs.declared.summary.StartRefusal.{StartRefusal}
use Rattle.prof_machine.specs.declared.summary.StartRefusal.TheVariants as starts
use Rattle.courses.specs.Contract.{Acted, RefusalIsNoWant}
use Rattle.rvgprof.proofs.RefusalLemmas.{ElfNamed, GmonNamed, elf_never, file_never}
use Rattle.rvgprof.specs.Acceptance.{starts_run}

-- ---- refusals of files are never want of memory

elf_named : (bytes : List ℕ) (r : ElfRefusal) → elf_refusal bytes ≡ Some r → RefusalIsNoWant (BadElf r)
elf_named bytes elf.OutOfMemory is = subst ElfNamed is (elf_never bytes)
elf_named bytes r is = tt

profile_named : (bytes : List ℕ) (word : ℕ) (r : GmonRefusal) → file_refusal bytes ≡ Some r → RefusalIsNoWant (BadProfile r word)
profile_named bytes word gmons.OutOfMemory is = subst GmonNamed is (file_never bytes)
profile_named bytes word r is = tt

start_named : (r : StartRefusal) → RefusalIsNoWant (start_fault_of r)
start_named (starts.ProgramTooLarge need end) = tt
start_named (starts.EntryOutside entry) = tt
start_named starts.OutOfMemory = tt

module _ (contents : ℕ → List ℕ) (some : Bool) where
  -- where it ends well, something is told of a run or nothing is; and no refusal of a file is want of memory
  abbrev Tells : Course → Type 0
  Tells course = MatchResult (reply_to contents course).ending (λ done. is_some done.run ≡ some) RefusalIsNoWant

  tells_unless : {R : Type 0} (fault : R → Fault) (refusal : Option R) (next : Course) → ((r : R) → refusal ≡ Some r → RefusalIsNoWant (fault r)) → Tells next → Tells (unless fault refusal next)
  tells_unless fault None next named tells = tells
  tells_unless fault (Some r) next named tells = named r refl

  tells_input : (word limit : ℕ) (next : List ℕ → Course) → ((bytes : List ℕ) → Tells (next bytes)) → Tells (Input word limit next)
  tells_input word limit next tells = by (ltb limit (length (contents word)))
    where
      by : (b : Bool) → MatchResult (cond b (record { ending = Err (TooLarge word limit); acts = [] }) (reply_to contents (next (contents word)))).ending (λ done. is_some done.run ≡ some) RefusalIsNoWant
      by true = tt
      by false = tells (contents word)

  tells_program : (word : ℕ) (next : List ℕ → Image → Course) → ((bytes : List ℕ) (image : Image) → Tells (next bytes image)) → Tells (program word next)
  tells_program word next tells = search (tells_input, tells_unless, elf_named)

  tells_file : (word limit : ℕ) (next : ℕ → Records → Course) → ((len : ℕ) (records : Records) → Tells (next len records)) → Tells (profile_file word limit next)
  tells_file word limit next tells = search (tells_input, tells_unless, profile_named)

  tells_profiles : (words : List ℕ) (left : ℕ) (total : Content) (next : Content → Course) → ((t : Content) → Tells (next t)) → Tells (profiles words left total next)
  tells_profiles [] left total next tells = tells total
  tells_profiles (word ∷ words) left total next tells =
      let fault : Difference → Fault = λ unlike. Unlike unlike word in
      let rest : ℕ → Records → Course = λ len records. profiles words (left - len) (sum_of total (profile_in records)) next in
      let second : ℕ → Records → Course = λ len records. unless fault (clash_of total (profile_in records)) (rest len records) in
      tells_file word left (λ len records. unless fault (conflict_of empty_content (wide_records records.recs)) (second len records)) (λ len records.
      tells_unless fault (conflict_of empty_content (wide_records records.recs)) (second len records) (λ r is. tt)
      (tells_unless fault (clash_of total (profile_in records)) (rest len records) (λ r is. tt) (tells_profiles words (left - len) (sum_of total (profile_in records)) next tells)))

  tells_exact : (exact : Bool) (s : Sources) (next : Course) → Tells next → Tells (exact_report exact s next)
  tells_exact false s next tells = tells
  tells_exact true s next tells = tells

  tells_shown : (shown : Shown) (hidden : List (List ℕ)) (s : Sources) (next : Course) → Tells next → Tells (shown_reports shown hidden s next)
  tells_shown shows.Flat hidden s next tells = tells
  tells_shown shows.Graph hidden s next tells = tells
  tells_shown shows.Both hidden s next tells = tells

  tells_reports : (chosen : Chosen) (image : Image) (total : Content) (next : Course) → Tells next → Tells (print_reports chosen image total next)
  tells_reports chosen image total next tells = search (tells_unless, tells_shown, tells_exact)

  tells_one_by_one : (acts : List Act) (next : Course) → Tells next → Tells (one_by_one acts next)
  tells_one_by_one [] next tells = tells
  tells_one_by_one (act ∷ acts) next tells = tells_one_by_one acts next tells

  tells_start : (image : Image) (setup : Setup) (next : Course) → Tells next → Tells (unless start_fault_of (start_refusal image setup) next)
  tells_start image setup next tells = tells_unless start_fault_of (start_refusal image setup) next (λ r is. start_named r) tells

  tells_run : (acts : RunActs) (setup : Setup) (next : Sizes → World → Course) (bytes : List ℕ) (image : Image) → Tells (next (sizes_of image.text setup.hist setup.hash) (final_world image bytes setup)) → Tells (run_program acts setup next bytes image)
  tells_run acts setup next bytes image tells = search tells_start

-- a run that ended has a summary
told_of : {A : Type 0} (f : End → A) (ending : Option End) → IsSome ending → is_some (option_map f ending) ≡ true
told_of f None h = absurd cc
told_of f (Some end) h = refl

summed_up : (contents : ℕ → List ℕ) (image : Image) (bytes : List ℕ) (setup : Setup) → IsSetup setup → Tells contents true (sums_up (sizes_of image.text setup.hist setup.hash) (final_world image bytes setup))
summed_up contents image bytes setup is = told_of _ (final_world image bytes setup).ending (plan_ends image bytes setup is.some_every is.some_budget)

-- where nothing is told of a run, none was started
tells_by : (words : List (List ℕ)) (contents : ℕ → List ℕ) (command : Command) → IsCommandOf words command → Tells contents (starts_run (Some command)) (command_course words (Some command))
tells_by words contents (Show gmon) within = tells_file contents false gmon MAX_PROFILE_BYTES show_lines (λ len records. refl)
tells_by words contents (Syms elf) within = tells_program contents false elf syms_lines (λ bytes image. refl)
tells_by words contents (Sum out gmons) within = tells_profiles contents false gmons MAX_PROFILE_BYTES empty_content (sum_file (nth_word words out)) (λ t. refl)
tells_by words contents (Report elf gmons selection) within =
    let chosen = chosen_by words selection in
    tells_program contents false elf (report_profiles gmons chosen) (λ bytes image.
    tells_profiles contents false gmons MAX_PROFILE_BYTES empty_content (λ total. print_reports chosen image total end_course) (λ t. tells_reports contents false chosen image t end_course refl))
tells_by words contents (Run elf gmon form memory setup) within =
    let acts = run_acts (files_named words gmon form memory) setup in
    tells_program contents true elf (run_program acts setup sums_up) (λ bytes program. tells_run contents true acts setup sums_up bytes program (summed_up contents program bytes setup within.0))
tells_by words contents (Profile elf gmon form memory setup selection) within =
    let acts = run_acts (files_named words gmon form memory) setup in
    let chosen = chosen_by words selection in
    let next : Image → Sizes → World → Course = report_run setup.rate chosen in
    tells_program contents true elf (λ b i. run_program acts setup (next i) b i) (λ bytes program.
    let z = sizes_of program.text setup.hist setup.hash in
    let w = final_world program bytes setup in
    tells_run contents true acts setup (next program) bytes program (tells_reports contents true chosen program (logged_profile z w.log setup.rate) (sums_up z w) (summed_up contents program bytes setup within.0.0)))
tells_by words contents (Annotate elf gmons) within =
    tells_program contents false elf (list_profiles gmons) (λ bytes image.
    tells_profiles contents false gmons MAX_PROFILE_BYTES empty_content (λ total. Does (Out (annotated_text image bytes total) ∷ []) end_course) (λ t. refl))
tells_by words contents (Folded elf inclusive setup) within =
    tells_program contents true elf (fold_program inclusive setup) (λ bytes image.
    tells_start contents true image setup (one_by_one (final_world image bytes setup).prints (stacks_told inclusive image bytes setup))
    (tells_one_by_one contents true (final_world image bytes setup).prints (stacks_told inclusive image bytes setup) (summed_up contents image bytes setup within)))
tells_by words contents Help within = refl
tells_by words contents Version within = refl
tells_by words contents (Demo functions elf setup) within =
    let bytes = demo_program functions in
    let program = image_of bytes in
    let acts : RunActs = λ z w. w.prints in
    let next : Sizes → World → Course = demo_lines functions setup.rate program in
    tells_unless contents true BadElf (elf_refusal bytes) (Does (given_file_acts (option_map (nth_word words) elf) bytes) (run_program acts setup next bytes program)) (elf_named bytes)
    (tells_run contents true acts setup next bytes program (summed_up contents program bytes setup within.2))

by_command : (words : List (List ℕ)) (contents : ℕ → List ℕ) (command : Command) (o : Option Command) → o ≡ Some command → IsCommandOf words command → Tells contents (starts_run o) (command_course words o)
by_command words contents command o is within = subst (λ (c : Option Command). Tells contents (starts_run c) (command_course words c)) (sym is) (tells_by words contents command within)

-- what is told of the course is told by the answer
told_so : (contents : ℕ → List ℕ) (some : Bool) (course : Course) (result : Result Done Fault) → result ≡ (reply_to contents course).ending → Tells contents some course → MatchResult result (λ done. is_some done.run ≡ some) RefusalIsNoWant
told_so contents some course result is = subst (λ (r : Result Done Fault). MatchResult r (λ done. is_some done.run ≡ some) RefusalIsNoWant) (sym is)

pub told_where_run : (words : List (List ℕ)) (command : Command) (old new : Outside) (result : Result Done Fault) → command_of words ≡ Some command → IsCommandOf words command → Acted words old new result
    → IfOk result (λ done. is_some done.run ≡ starts_run (command_of words))
told_where_run words command old new (Ok done) said within acted =
    told_so acted.owed.contents (starts_run (command_of words)) (course_of words) (Ok done) acted.owed.owes.ending (by_command words acted.owed.contents command (command_of words) said within)
told_where_run words command old new (Err fault) said within acted = tt

pub named_where_refused : (words : List (List ℕ)) (command : Command) (old new : Outside) (result : Result Done Fault) → command_of words ≡ Some command → IsCommandOf words command → Acted words old new result
    → IfErr result RefusalIsNoWant
named_where_refused words command old new (Err (BadElf r)) said within acted =
    told_so acted.owed.contents (starts_run (command_of words)) (course_of words) (Err (BadElf r)) acted.owed.owes.ending (by_command words acted.owed.contents command (command_of words) said within)
named_where_refused words command old new (Err (BadProfile r word)) said within acted =
    told_so acted.owed.contents (starts_run (command_of words)) (course_of words) (Err (BadProfile r word)) acted.owed.owes.ending (by_command words acted.owed.contents command (command_of words) said within)
named_where_refused words command old new (Ok done) said within acted = tt
named_where_refused words command old new (Err fault) said within acted = tt
