-- Where a command is carried out: exactly where all is accepted. And which commands do all their acts at once.
use Rattle.std.proofs.Common.{◌≡◌, ◌↔◌, ℕ, ◌-◌, ◌≤◌, true, List, [], ◌∷◌, ◌++◌, append-nil, append_assoc, length, Option, Some, None, Ok, inl, inr, refl, sym, ap, subst, arith}
use Rattle.std.specs.List.{AllByRecursion, flat_map, sum_by}
use Rattle.std.specs.Result.{IsOk}
use Rattle.std.proofs.lemmas.List.Concat.{flat_map-append}
use Rattle.std.proofs.lemmas.List.Sums.{sum_by-cons}
use Rattle.gp_base.specs.declared.records.Records.{Records}
use Rattle.gp_base.specs.declared.limits.TheConstants.{MAX_PROFILE_BYTES}
use Rattle.host_port.specs.Act.{Act, Out}
use Rattle.elf32_syms.specs.declared.image.Image.{Image}
use Rattle.gmon_data.specs.Content.{Content, WideRec, content_of, conflict_of, empty_content, wide_records}
use Rattle.gmon_data.specs.declared.refusal.Unlike.{Unlike as Difference}
use Rattle.profile_sum.specs.Sum.{sum_of, clash_of}
use Rattle.profile_sum.proofs.ContentLemmas.{content_sum}
use Rattle.text_lines.specs.Lines.{show_text, image_text}
use Rattle.courses.specs.declared.outcome.Done.{Done}
use Rattle.courses.specs.declared.outcome.Fault.{Fault}
use Rattle.courses.specs.declared.outcome.Fault.TheVariants.{Unlike}
use Rattle.command_words.specs.declared.words.Command.{Command}
use Rattle.command_words.specs.declared.words.Command.TheVariants.{Show, Syms, Run, Sum, Report, Profile, Demo, Annotate, Folded, Help, Version}
use Rattle.command_words.specs.Items.{nth_word}
use Rattle.command_words.specs.Words.{command_of}
use Rattle.courses.specs.Course.{Course, Ends, Input, Does, one_by_one, unless, reply_to, MayStop}
use Rattle.courses.specs.Help.{help_text, version_text}
use Rattle.gmon_files.specs.Forms.{file_refusal, file_records}
use Rattle.courses.specs.Answer.{command_course, course_of, profile_file, profile_in, profiles, program, show_lines, sum_file, syms_lines}
use Rattle.command_inputs.proofs.Summing.{nothing_added}
use Rattle.rvgprof.specs.Acceptance.{IsLike, AreProfileFiles, IsAccepted, acts_at_once}
use Rattle.command_inputs.specs.Totals.{records_of, total_of}

-- no list with an item in it is empty
never_empty : {T : Type 0} (before : List T) (x : T) (after : List T) → [] ≡ before ++ x ∷ after → ⊥
never_empty [] x after e = absurd cc
never_empty (y ∷ before) x after e = absurd cc

module _ (contents : ℕ → List ℕ) where
  abbrev IsDone : Course → Type 0
  IsDone course = IsOk (reply_to contents course).ending

  unless_done : {R : Type 0} (fault : R → Fault) (refusal : Option R) (next : Course) → IsDone (unless fault refusal next) ↔ ((refusal ≡ None) × IsDone next)
  unless_done fault None next = ((λ h. (refl, h)), (λ h. h.1))
  unless_done fault (Some r) next = ((λ h. absurd cc), (λ h. absurd cc))

  profile_done : (word limit : ℕ) (next : ℕ → Records → Course) → IsDone (profile_file word limit next)
      ↔ ((length (contents word) ≤ limit) × (file_refusal (contents word) ≡ None) × IsDone (next (length (contents word)) (file_records (contents word))))
  profile_done word limit next = grind arith

  one_by_one_done : (acts : List Act) (next : Course) → IsDone next → IsDone (one_by_one acts next)
  one_by_one_done [] next h = h
  one_by_one_done (act ∷ acts) next h = one_by_one_done acts next h

  -- ---- files that are added up

  abbrev records_at : ℕ → List WideRec
  records_at word = records_of (contents word)

  abbrev all_records : List ℕ → List WideRec
  all_records words = flat_map records_at words

  abbrev is_taken : ℕ → Type 0
  is_taken word = file_refusal (contents word) ≡ None

  abbrev bytes_in : ℕ → ℕ
  bytes_in word = length (contents word)

  -- each is like those before it, where earlier ones are in front
  abbrev AreAlike : List ℕ → List ℕ → Type 0
  AreAlike earlier words = (before : List ℕ) (word : ℕ) (after : List ℕ) → words ≡ before ++ word ∷ after → IsLike (all_records (earlier ++ before)) (records_at word)

  alike_more : (earlier : List ℕ) (word : ℕ) (words : List ℕ) → IsLike (all_records earlier) (records_at word) → AreAlike (earlier ++ word ∷ []) words → AreAlike earlier (word ∷ words)
  alike_more earlier word words here others [] w after e = grind (arith, append-nil)
  alike_more earlier word words here others (x ∷ before) w after e = grind (arith, append_assoc)

  alike_first : (earlier : List ℕ) (word : ℕ) (words : List ℕ) → AreAlike earlier (word ∷ words) → IsLike (all_records earlier) (records_at word)
  alike_first earlier word words alike = subst (λ (front : List ℕ). IsLike (all_records front) (records_at word)) (append-nil earlier) (alike [] word words refl)

  alike_others : (earlier : List ℕ) (word : ℕ) (words : List ℕ) → AreAlike earlier (word ∷ words) → AreAlike (earlier ++ word ∷ []) words
  alike_others earlier word words alike before w after e =
      subst (λ (front : List ℕ). IsLike (all_records front) (records_at w)) (sym (append_assoc earlier (word ∷ []) before)) (alike (word ∷ before) w after (ap (λ (ws : List ℕ). word ∷ ws) e))

  total_more : (earlier : List ℕ) (word : ℕ) (total : Content) → total ≡ content_of (all_records earlier) → sum_of total (profile_in (file_records (contents word))) ≡ content_of (all_records (earlier ++ word ∷ []))
  total_more earlier word total is = grind (arith, append-nil, flat_map-append, content_sum)

  abbrev AreTaken : List ℕ → ℕ → List ℕ → Type 0
  AreTaken earlier left words = (sum_by bytes_in words ≤ left) × AllByRecursion is_taken words × AreAlike earlier words

  profiles_done : (earlier words : List ℕ) (left : ℕ) (total : Content) (next : Content → Course) → total ≡ content_of (all_records earlier)
      → IsDone (profiles words left total next) ↔ (AreTaken earlier left words × IsDone (next (content_of (all_records (earlier ++ words)))))
  profiles_done earlier [] left total next is = grind (arith, append-nil, never_empty)
  profiles_done earlier (word ∷ words) left total next is =
      let records = file_records (contents word) in
      let fault : Difference → Fault = λ unlike. Unlike unlike word in
      let len = length (contents word) in
      let rest = profiles words (left - len) (sum_of total (profile_in records)) next in
      let second = unless fault (clash_of total (profile_in records)) rest in
      let first = unless_done fault (conflict_of empty_content (records_at word)) second in
      let other = unless_done fault (clash_of total (profile_in records)) rest in
      let read = profile_done word left (λ n rs. unless fault (conflict_of empty_content (wide_records rs.recs)) (unless fault (clash_of total (profile_in rs)) (profiles words (left - n) (sum_of total (profile_in rs)) next))) in
      let later = profiles_done (earlier ++ word ∷ []) words (left - len) (sum_of total (profile_in records)) next (total_more earlier word total is) in
      let sums = sum_by-cons bytes_in word words in
      let grouped : (earlier ++ word ∷ []) ++ words ≡ earlier ++ word ∷ words = append_assoc earlier (word ∷ []) words in
      let at_end : List ℕ → Type 0 = λ ws. IsDone (next (content_of (all_records ws))) in (
        (λ h.
            let one = read.0 h in
            let two = first.0 one.2 in
            let three = other.0 two.1 in
            let four = later.0 three.1 in
            let here : IsLike (all_records earlier) (records_at word) = record { itself = two.0; others = subst (λ (t : Content). clash_of t (content_of (records_at word)) ≡ None) is three.0 } in
            ((omega (arith, sums, one.0, four.0.0), (one.1, four.0.1), alike_more earlier word words here four.0.2), subst at_end grouped four.1)),
        (λ h.
            let here = alike_first earlier word words h.0.2 in
            let fits : sum_by bytes_in words ≤ left - len = omega (arith, sums, h.0.0) in
            let four = later.1 ((fits, h.0.1.1, alike_others earlier word words h.0.2), subst at_end (sym grouped) h.1) in
            let three = other.1 (subst (λ (t : Content). clash_of t (content_of (records_at word)) ≡ None) (sym is) here.others, four) in
            read.1 (omega (arith, sums, h.0.0), h.0.1.0, first.1 (here.itself, three))),
      )

  files_done : (words : List ℕ) (next : Content → Course) → IsDone (profiles words MAX_PROFILE_BYTES empty_content next) ↔ (AreProfileFiles contents words × IsDone (next (total_of contents words)))
  files_done words next = grind (arith, profiles_done [] words MAX_PROFILE_BYTES empty_content next nothing_added)

  -- files alone, where all else is done
  files_alone : (words : List ℕ) (next : Content → Course) → IsDone (next (total_of contents words)) → IsDone (profiles words MAX_PROFILE_BYTES empty_content next) ↔ AreProfileFiles contents words
  files_alone words next ends = let done = files_done words next in ((λ h. (done.0 h).0), (λ h. done.1 (h, ends)))

  -- ---- commands

  accepted_by : (words : List (List ℕ)) (command : Option Command) → IsDone (command_course words command) ↔ IsAccepted words contents command
  accepted_by words None = ((λ h. absurd cc), (λ h. absurd h))
  accepted_by words (Some (Show gmon)) = grind arith
  accepted_by words (Some (Syms elf)) = grind arith
  accepted_by words (Some (Sum out gmons)) = files_alone gmons (sum_file (nth_word words out)) refl
  accepted_by words (Some (Report elf gmons selection)) = grind (arith, files_done)
  accepted_by words (Some (Run elf gmon form memory setup)) = grind arith
  accepted_by words (Some (Profile elf gmon form memory setup selection)) = grind arith
  accepted_by words (Some (Demo functions elf setup)) = grind arith
  accepted_by words (Some (Annotate elf gmons)) = grind (arith, files_alone)
  accepted_by words (Some (Folded elf inclusive setup)) = grind (arith, one_by_one_done)
  accepted_by words (Some Help) = ((λ h. tt), (λ h. refl))
  accepted_by words (Some Version) = ((λ h. tt), (λ h. refl))

  -- ---- running out of memory before anything is done

  abbrev StopsIdle : Course → Type 0
  StopsIdle course = (acts : List Act) → MayStop contents course acts → acts ≡ []

  idle_unless : {R : Type 0} (fault : R → Fault) (refusal : Option R) (next : Course) → StopsIdle next → StopsIdle (unless fault refusal next)
  idle_unless fault None next idle = idle
  idle_unless fault (Some r) next idle = λ acts h. h

  idle_input : (word limit : ℕ) (next : List ℕ → Course) → ((bytes : List ℕ) → StopsIdle (next bytes)) → StopsIdle (Input word limit next)
  idle_input word limit next idle acts (inl none) = none
  idle_input word limit next idle acts (inr h) = idle (contents word) acts h.1

  idle_program : (word : ℕ) (next : List ℕ → Image → Course) → ((bytes : List ℕ) (image : Image) → StopsIdle (next bytes image)) → StopsIdle (program word next)
  idle_program word next idle = search (idle_input, idle_unless)

  idle_file : (word limit : ℕ) (next : ℕ → Records → Course) → ((len : ℕ) (records : Records) → StopsIdle (next len records)) → StopsIdle (profile_file word limit next)
  idle_file word limit next idle = search (idle_input, idle_unless)

  -- all acts at once, and then it is carried out
  idle_does : (all : List Act) (done : Done) → StopsIdle (Does all (Ends (Ok done)))
  idle_does all done acts (inl none) = none
  idle_does all done acts (inr h) = absurd h.2

  idle_profiles : (words : List ℕ) (left : ℕ) (total : Content) (next : Content → Course) → ((t : Content) → StopsIdle (next t)) → StopsIdle (profiles words left total next)
  idle_profiles [] left total next idle = idle total
  idle_profiles (word ∷ words) left total next idle =
      let fault : Difference → Fault = λ unlike. Unlike unlike word in
      let rest : ℕ → Records → Course = λ len records. profiles words (left - len) (sum_of total (profile_in records)) next in
      let added : ℕ → Records → Course = λ len records. unless fault (clash_of total (profile_in records)) (rest len records) in
      let alike : ℕ → Records → Course = λ len records. unless fault (conflict_of empty_content (wide_records records.recs)) (added len records) in
      idle_file word left alike (λ len records.
      idle_unless fault (conflict_of empty_content (wide_records records.recs)) (added len records)
      (idle_unless fault (clash_of total (profile_in records)) (rest len records) (idle_profiles words (left - len) (sum_of total (profile_in records)) next idle)))

  idle_by : (words : List (List ℕ)) (command : Option Command) → acts_at_once command ≡ true → StopsIdle (command_course words command)
  idle_by words None at_once = absurd cc
  idle_by words (Some (Show gmon)) at_once = idle_file gmon MAX_PROFILE_BYTES show_lines (λ len records. idle_does (Out (show_text records) ∷ []) (record { run = None }))
  idle_by words (Some (Syms elf)) at_once = idle_program elf syms_lines (λ bytes image. idle_does (Out (image_text image) ∷ []) (record { run = None }))
  idle_by words (Some (Sum out gmons)) at_once = search (idle_profiles, idle_does)
  idle_by words (Some (Report elf gmons selection)) at_once = absurd cc
  idle_by words (Some (Run elf gmon form memory setup)) at_once = grind arith
  idle_by words (Some (Profile elf gmon form memory setup selection)) at_once = absurd cc
  idle_by words (Some (Demo functions elf setup)) at_once = absurd cc
  idle_by words (Some (Annotate elf gmons)) at_once = search (idle_program, idle_profiles, idle_does)
  idle_by words (Some (Folded elf inclusive setup)) at_once = absurd cc
  idle_by words (Some Help) at_once = idle_does (Out help_text ∷ []) (record { run = None })
  idle_by words (Some Version) at_once = idle_does (Out version_text ∷ []) (record { run = None })

pub accepted : (words : List (List ℕ)) (contents : ℕ → List ℕ) → IsOk (reply_to contents (course_of words)).ending ↔ IsAccepted words contents (command_of words)
accepted words contents = accepted_by contents words (command_of words)

pub idle : (words : List (List ℕ)) (contents : ℕ → List ℕ) (acts : List Act) → acts_at_once (command_of words) ≡ true → MayStop contents (course_of words) acts → acts ≡ []
idle words contents acts at_once = idle_by contents words (command_of words) at_once acts
