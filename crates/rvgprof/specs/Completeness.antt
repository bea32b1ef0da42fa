-- All that is due was done.
use Rattle.std.specs.Prelude.{◌≡◌, ℕ, ◌-◌, ◌^◌, ◌<◌, Bool, true, false, List, [], ◌∷◌, ◌++◌, Result, ◌⊎◌}
use Rattle.std.specs.List.{AllByRecursion}
use Rattle.host_port.specs.Act.{Act}
use Rattle.host_port.specs.Act.{Err as Complain}
use Rattle.host_port.specs.Outside.{Outside, Did, with_openings}
use Rattle.courses.specs.declared.outcome.Done.{Done}
use Rattle.courses.specs.declared.outcome.Fault.{Fault}
use Rattle.rvgprof.specs.Texts.{last_line}
use Rattle.courses.specs.Course.{reply_to, inputs_of}
use Rattle.courses.specs.Answer.{course_of, contents_of}
use Rattle.courses.specs.Contract.{WhereTold, LineEnds}

-- A count of faults stayed, and doesn't stand at its end, where it stays after a fault too.
pub record Stayed (before now : ℕ) : Type 0 where
  pub same : now ≡ before
  pub below : before < 2 ^ 64 - 1

-- whether an act is a print on the error output
abbrev pub is_complaint : Act → Bool
is_complaint (Complain bytes) = true
is_complaint act = false

-- nothing is to be printed on the error output but the last line
abbrev pub IsSilent : List (List ℕ) → Outside → Outside → Type 0
IsSilent words old new =
    (contents : ℕ → List ℕ) → WhereTold old new (λ files. contents ≡ contents_of words files) → AllByRecursion (λ act. is_complaint act ≡ false) (reply_to contents (course_of words)).acts

-- No call on the host failed, but perhaps that which prints the last line: nothing else is to be printed on the error
-- output, or no call that prints there failed either.
pub record NoneFailed (words : List (List ℕ)) (old new : Outside) : Type 0 where
  pub read : Stayed old.read_faults new.read_faults
  pub write : Stayed old.write_faults new.write_faults
  pub complain : Stayed old.err_faults new.err_faults ⊎ IsSilent words old new

-- All that is due was done, and the answer is the definition's, for inputs with some contents: for those of the files
-- that are told before and after, where they are.
pub record Complete (words : List (List ℕ)) (old new : Outside) (result : Result Done Fault) : Type 0 where
  pub contents : ℕ → List ℕ
  pub told : WhereTold old new (λ files. contents ≡ contents_of words files)
  pub ending : result ≡ (reply_to contents (course_of words)).ending
  -- what was printed of the last line
  pub line : List ℕ
  -- each input was opened once
  pub did : Did ((reply_to contents (course_of words)).acts ++ Complain line ∷ []) (with_openings (inputs_of contents (course_of words)) old) new
  pub ends : LineEnds line (last_line words result) old.err_faults new.err_faults
