-- Where no call on the host failed, all that is due was done; and where memory ran out, a prefix of it.
use Rattle.std.proofs.Common.{◌≡◌, ℕ, ◌≤◌, Bool, cond, List, [], ◌∷◌, ◌++◌, append_assoc, length, Result, Ok, Err, ◌⊎◌, inl, inr, refl, sym, ap, subst, ◌∙◌, arith}
use Rattle.std.specs.List.{AllByRecursion}
use Rattle.std.proofs.lemmas.Bool.{le-ltb}
use Rattle.host_port.specs.Act.{Act}
use Rattle.host_port.specs.Act.{Err as Complain}
use Rattle.host_port.specs.Outside.{Outside, Did, Rose, with_openings}
use Rattle.host_port.specs.Performing.{ActFailed, FailedAt}
use Rattle.host_port.proofs.Laws.{Did-then}
use Rattle.courses.specs.declared.outcome.Done.{Done}
use Rattle.courses.specs.declared.outcome.Fault.{Fault}
use Rattle.courses.specs.declared.outcome.Fault.TheVariants.{Usage, BadElf, BadProfile, Unlike, TooWide, ProgramTooLarge, EntryOutside, ReadFault, WriteFault, OutOfMemory, TooLarge}
use Rattle.rvgprof.specs.Texts.{last_line}
use Rattle.courses.specs.Course.{Course, Ends, Input, Does, Knows, reply_to, inputs_of, MayStop}
use Rattle.courses.specs.Answer.{course_of, contents_of}
use Rattle.courses.specs.Contract.{IsReply, LineEnds, LineIsPrinted, Owes, WhereTold}
use Rattle.rvgprof.specs.Headline.{Answered}
use Rattle.courses.proofs.Standing.{further}
use Rattle.rvgprof.specs.Completeness.{Stayed, IsSilent, NoneFailed, Complete}

-- a count that stayed didn't rise on the way
not_risen : (before mid now : ℕ) → Stayed before now → Rose before mid → mid ≤ now → ⊥
not_risen before mid now stayed rose within = grind arith

-- how often complaining had failed is no more afterwards
line_counts : (line whole : List ℕ) (before after : ℕ) → LineEnds line whole before after → before ≤ after
line_counts line whole before after (inl h) = grind arith
line_counts line whole before after (inr h) = h.1.kept

-- where complaining didn't fail, the last line was printed as a whole
pub whole_line : (line whole : List ℕ) (before after : ℕ) → LineEnds line whole before after → Stayed before after → line ≡ whole
whole_line line whole before after (inl h) stayed = h.0
whole_line line whole before after (inr h) stayed = absurd (not_risen before after after stayed h.1 (omega arith))

-- what holds of all that is due holds of what failed
failed_too : (P : Act → Type 0) (failed : Act) (done acts : List Act) → FailedAt failed done acts → AllByRecursion P acts → P failed
failed_too P failed done [] at all = absurd at
failed_too P failed [] (act ∷ acts) at all = subst P at all.0
failed_too P failed (first ∷ more) (act ∷ acts) (inl at) all = failed_too P failed more acts at.1 all.1
failed_too P failed (first ∷ more) (act ∷ acts) (inr at) all = subst P at.2 all.0

-- The moment `mid` lies before the last line, which is then printed, and nothing else.
module _ (words : List (List ℕ)) (contents : ℕ → List ℕ) (old mid new : Outside) where
  abbrev due : List Act
  due = (reply_to contents (course_of words)).acts

  abbrev IsTold : Type 0
  IsTold = WhereTold old new (λ files. contents ≡ contents_of words files)

  -- no act failed
  no_complaint_failed : (bytes : List ℕ) (done : List Act) → IsTold → FailedAt (Complain bytes) done due → Rose old.err_faults mid.err_faults → mid.err_faults ≤ new.err_faults
      → Stayed old.err_faults new.err_faults ⊎ IsSilent words old new → ⊥
  no_complaint_failed bytes done told failed rose within (inl stayed) = not_risen old.err_faults mid.err_faults new.err_faults stayed rose within
  no_complaint_failed bytes done told failed rose within (inr silent) = grind (arith, failed_too)

  no_act_failed : (act : Act) (done : List Act) → IsTold → NoneFailed words old new → FailedAt act done due → ActFailed act old mid → new.write_faults ≡ mid.write_faults → mid.err_faults ≤ new.err_faults → ⊥
  no_act_failed (Complain bytes) done told none failed at same within = no_complaint_failed bytes done told failed at.own.0 within none.complain
  no_act_failed act done told none failed at same within = not_risen old.write_faults mid.write_faults new.write_faults none.write at.own.0 (omega (arith, same))

  -- what was done is what is due, and the last line stands behind it
  all_done : (opens : ℕ) (done : List Act) (result : Result Done Fault) (last : LineIsPrinted (last_line words result) mid new) → IsTold → Did done (with_openings opens old) mid
      → IsReply words contents old mid opens done result → Complete words old new result
  all_done opens done result last told did reply =
      let all : Did (done ++ Complain last.line ∷ []) (with_openings opens old) new = Did-then done (Complain last.line ∷ []) (with_openings opens old) mid new did last.did in
      record {
        contents = contents;
        told = told;
        ending = reply.ending;
        line = last.line;
        did = subst (λ (acts : List Act). Did (acts ++ Complain last.line ∷ []) (with_openings (inputs_of contents (course_of words)) old) new) reply.acts
            (subst (λ (n : ℕ). Did (done ++ Complain last.line ∷ []) (with_openings n old) new) reply.inputs all);
        ends = subst (λ (n : ℕ). LineEnds last.line (last_line words result) n new.err_faults) reply.counts.err last.ends;
      }

  -- words without a reading have nothing due
  nothing_due : (opens : ℕ) (done : List Act) → Owes words contents old mid opens done (Err Usage) → IsReply words contents old mid opens done (Err Usage)
  nothing_due opens done owes = grind arith

  complete_by : (opens : ℕ) (done : List Act) (result : Result Done Fault) (last : LineIsPrinted (last_line words result) mid new) → IsTold → Did done (with_openings opens old) mid → NoneFailed words old new
      → Owes words contents old mid opens done result → (result ≡ Err OutOfMemory) ⊎ Complete words old new result
  complete_by opens done (Err Usage) last told did none owes = inr (all_done opens done (Err Usage) last told did (nothing_due opens done owes))
  complete_by opens done (Err (ReadFault word)) last told did none owes = grind arith
  complete_by opens done (Err WriteFault) last told did none owes = search (no_act_failed, line_counts)
  complete_by opens done (Err OutOfMemory) last told did none owes = inl refl
  complete_by opens done (Ok carried) last told did none owes = inr (all_done opens done (Ok carried) last told did owes)
  complete_by opens done (Err (BadElf refusal)) last told did none owes = inr (all_done opens done (Err (BadElf refusal)) last told did owes)
  complete_by opens done (Err (BadProfile refusal word)) last told did none owes = inr (all_done opens done (Err (BadProfile refusal word)) last told did owes)
  complete_by opens done (Err (Unlike unlike word)) last told did none owes = inr (all_done opens done (Err (Unlike unlike word)) last told did owes)
  complete_by opens done (Err (TooWide head arc)) last told did none owes = inr (all_done opens done (Err (TooWide head arc)) last told did owes)
  complete_by opens done (Err (TooLarge word limit)) last told did none owes = inr (all_done opens done (Err (TooLarge word limit)) last told did owes)
  complete_by opens done (Err (ProgramTooLarge need end)) last told did none owes = inr (all_done opens done (Err (ProgramTooLarge need end)) last told did owes)
  complete_by opens done (Err (EntryOutside entry)) last told did none owes = inr (all_done opens done (Err (EntryOutside entry)) last told did owes)

pub complete : (words : List (List ℕ)) (old new : Outside) (result : Result Done Fault) → Answered words old new result → NoneFailed words old new → (result ≡ Err OutOfMemory) ⊎ Complete words old new result
complete words old new result answered none =
    let acted = answered.acted in
    let mid = answered.before in
    let contents = acted.owed.contents in
    let told = further _ old.disk mid.disk new.disk (λ files. contents ≡ contents_of words files) answered.line.did.disk acted.owed.told in
    complete_by words contents old mid new acted.opens acted.done result answered.line told acted.did none acted.owed.owes

-- where nothing was done, all is left
all_left : (acts due : List Act) → acts ≡ [] → (rest : List Act) × (due ≡ acts ++ rest)
all_left acts due none = (due, ap (λ (front : List Act). front ++ due) (sym none))

pub memory_leaves : (contents : ℕ → List ℕ) (course : Course) (acts : List Act) → MayStop contents course acts → (rest : List Act) × ((reply_to contents course).acts ≡ acts ++ rest)
memory_leaves contents (Ends (Ok done)) acts stops = absurd stops
memory_leaves contents (Ends (Err fault)) acts stops = all_left acts [] stops
memory_leaves contents (Does first next) acts (inl none) = all_left acts (first ++ (reply_to contents next).acts) none
memory_leaves contents (Does first next) acts (inr stops) =
    let more = stops.0 in
    let left = memory_leaves contents next more stops.2 in
    (left.0, ap (λ (due : List Act). first ++ due) left.1 ∙ sym (append_assoc first more left.0) ∙ ap (λ (front : List Act). front ++ left.0) (sym stops.1))
memory_leaves contents (Knows fact next) acts stops = memory_leaves contents next acts stops
memory_leaves contents (Input word limit next) acts (inl none) = all_left acts (reply_to contents (Input word limit next)).acts none
memory_leaves contents (Input word limit next) acts (inr stops) =
    let left = memory_leaves contents (next (contents word)) acts stops.1 in
    (left.0, ap (λ (b : Bool). (cond b (record { ending = Err (TooLarge word limit); acts = [] }) (reply_to contents (next (contents word)))).acts) (le-ltb limit (length (contents word)) stops.0) ∙ left.1)
