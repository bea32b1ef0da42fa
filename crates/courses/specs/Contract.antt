-- What the program owes after each answer.
use Rattle.std.specs.Prelude.{◌≡◌, ◌≢◌, ℕ, suc, true, false, List, [], ◌∷◌, None, Result, Ok, Err, ◌⊎◌, MatchOption, IfSome, ⊤}
use Rattle.host_port.specs.Act.{Act, File}
use Rattle.host_port.specs.Act.{Err as Complain}
use Rattle.host_port.specs.Outside.{Outside, Did, KeepsCounts, Rose, with_openings}
use Rattle.host_port.specs.Performing.{IsProperPrefix, FailedAt, ActFailed}
use Rattle.courses.specs.declared.outcome.Done.{Done}
use Rattle.courses.specs.declared.outcome.Fault.{Fault}
use Rattle.elf32_syms.specs.declared.refusal.ElfRefusal.TheVariants as elf
use Rattle.gp_base.specs.declared.refusal.GmonRefusal.TheVariants as gmons
use Rattle.courses.specs.declared.outcome.Fault.TheVariants.{Usage, BadElf, BadProfile, Unlike, TooWide, TooLarge, ProgramTooLarge, EntryOutside, ReadFault, WriteFault, OutOfMemory}
use Rattle.command_words.specs.Words.{command_of}
use Rattle.courses.specs.Course.{reply_to, inputs_of, must_refuse, AllKnown, ComesTo, MayStop}
use Rattle.courses.specs.Answer.{course_of, contents_of}

-- a call that reads failed, and no other; none followed it but calls that complain
pub record ReadingFailed (old new : Outside) : Type 0 where
  pub read : Rose old.read_faults new.read_faults
  pub last : new.last_failed ≡ true
  pub write : new.write_faults ≡ old.write_faults
  pub complain : new.err_faults ≡ old.err_faults

-- the input was opened that a word names, and those before it, each once
abbrev pub LastOpened : (ℕ → List ℕ) → List (List ℕ) → ℕ → ℕ → Type 0
LastOpened contents words opens word =
    (before : ℕ) × (opens ≡ suc before) × ComesTo contents (course_of words) before word

-- all of the course was done and is answered, each input was opened once, and no count of faults rose
pub record IsReply (words : List (List ℕ)) (contents : ℕ → List ℕ) (old new : Outside)
    (opens : ℕ) (done : List Act) (result : Result Done Fault) : Type 0 where
  pub ending : result ≡ (reply_to contents (course_of words)).ending
  pub acts : done ≡ (reply_to contents (course_of words)).acts
  pub counts : KeepsCounts old new
  pub inputs : opens ≡ inputs_of contents (course_of words)
  -- all that is known on the way is so
  pub known : AllKnown contents (course_of words)

-- where the last input that was opened was read to its end, there is no refusal that takes no memory
abbrev pub IsUndecided : List (List ℕ) → (ℕ → List ℕ) → Outside → ℕ → Type 0
IsUndecided words contents new opens = new.at_end ≡ true → must_refuse contents (course_of words) opens ≡ false

-- by the answer: what was done, which counts of faults rose, and how many inputs were opened, but after a fault of a write
-- and want of memory
abbrev pub Owes : List (List ℕ) → (ℕ → List ℕ) → Outside → Outside → ℕ → List Act → Result Done Fault → Type 0
Owes words contents old new opens done (Err Usage) =
    (command_of words ≡ None) × (done ≡ []) × KeepsCounts old new × (opens ≡ 0)
Owes words contents old new opens done (Err (ReadFault word)) =
    LastOpened contents words opens word × (done ≡ []) × ReadingFailed old new
Owes words contents old new opens done (Err WriteFault) =
    (act : Act) × FailedAt act done (reply_to contents (course_of words)).acts × ActFailed act old new
Owes words contents old new opens done (Err OutOfMemory) =
    MayStop contents (course_of words) done × KeepsCounts old new × IsUndecided words contents new opens
Owes words contents old new opens done (Err (BadElf refusal)) =
    IsReply words contents old new opens done (Err (BadElf refusal))
Owes words contents old new opens done (Err (BadProfile refusal word)) =
    IsReply words contents old new opens done (Err (BadProfile refusal word))
Owes words contents old new opens done (Err (Unlike unlike word)) =
    IsReply words contents old new opens done (Err (Unlike unlike word))
Owes words contents old new opens done (Err (TooWide head arc)) =
    IsReply words contents old new opens done (Err (TooWide head arc))
Owes words contents old new opens done (Err (TooLarge word limit)) =
    IsReply words contents old new opens done (Err (TooLarge word limit))
Owes words contents old new opens done (Err (ProgramTooLarge need end)) =
    IsReply words contents old new opens done (Err (ProgramTooLarge need end))
Owes words contents old new opens done (Err (EntryOutside entry)) =
    IsReply words contents old new opens done (Err (EntryOutside entry))
Owes words contents old new opens done (Ok carried) =
    IsReply words contents old new opens done (Ok carried)

-- a fact about the files before, where they are told before and after
abbrev pub WhereTold : Outside → Outside → (List File → Type 0) → Type 0
WhereTold old new P = MatchOption new.disk ⊤ (λ _. IfSome old.disk (λ d. P d.files))

-- This answer is owed for some contents of the inputs; where the files are told before and after, these are theirs
-- before.
pub record Owed (words : List (List ℕ)) (old new : Outside)
    (opens : ℕ) (done : List Act) (result : Result Done Fault) : Type 0 where
  pub contents : ℕ → List ℕ
  pub told : WhereTold old new (λ files. contents ≡ contents_of words files)
  pub owes : Owes words contents old new opens done result

-- what a file is refused for is never want of memory
abbrev pub RefusalIsNoWant : Fault → Type 0
RefusalIsNoWant (BadElf elf.OutOfMemory) = ⊥
RefusalIsNoWant (BadProfile gmons.OutOfMemory word) = ⊥
RefusalIsNoWant fault = ⊤

-- no file is being written, after every answer but a write fault
abbrev pub IsShut : Result Done Fault → Outside → Type 0
IsShut result new = result ≢ Err WriteFault → new.is_writing ≡ false

-- what stands before the last line
pub record Acted (words : List (List ℕ)) (old new : Outside) (result : Result Done Fault) : Type 0 where
  -- the acts that were done, the last perhaps in part
  pub done : List Act
  -- how many inputs were opened
  pub opens : ℕ
  pub did : Did done (with_openings opens old) new
  pub owed : Owed words old new opens done result
  pub shut : IsShut result new

-- the whole line, or a prefix of it where complaining failed
abbrev pub LineEnds : List ℕ → List ℕ → ℕ → ℕ → Type 0
LineEnds line whole before after = ((line ≡ whole) × (after ≡ before)) ⊎ (IsProperPrefix line whole × Rose before after)

-- the last line was printed, or a prefix of it, and nothing else was done
pub record LineIsPrinted (whole : List ℕ) (old new : Outside) : Type 0 where
  pub line : List ℕ
  pub did : Did (Complain line ∷ []) old new
  pub ends : LineEnds line whole old.err_faults new.err_faults
  pub read : new.read_faults ≡ old.read_faults
  pub write : new.write_faults ≡ old.write_faults
  pub last : new.last_failed ≡ old.last_failed
