-- How the program ends.
use Rattle.std.specs.Prelude.{◌≡◌, ℕ, List, Result, Ok, Err, if◌then◌else◌}
use Rattle.std.specs.declared.io.ErrorKind.{ErrorKind}
use Rattle.std.specs.declared.io.ErrorKind.TheVariants.{OutOfMemory}
use Rattle.host_port.specs.Outside.{Outside}
use Rattle.courses.specs.declared.outcome.Done.{Done}
use Rattle.courses.specs.declared.outcome.Fault.{Fault}
use Rattle.rvgprof.specs.Headline.{Answered}
use Rattle.courses.specs.Statuses.{status_of}

-- 0 where a command was carried out, and else the status of the fault
abbrev pub status_of_answer : Result Done Fault → ℕ
status_of_answer (Ok done) = 0
status_of_answer (Err fault) = status_of fault

-- The program has answered, and ends with the status of its answer.
abbrev pub EndsWith : List (List ℕ) → Outside → Outside → ℕ → Type 0
EndsWith words old new status =
    (answer : Result Done Fault) × Answered words old new answer × (status ≡ status_of_answer answer)

-- where the words can't be had from the system
abbrev pub status_without_words : ErrorKind → ℕ
status_without_words OutOfMemory = 7
status_without_words kind = 12
