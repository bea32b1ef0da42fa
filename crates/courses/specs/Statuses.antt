-- The exit status of each fault.
use Rattle.std.specs.Prelude.{ℕ}
use Rattle.courses.specs.declared.outcome.Fault.{Fault}
use Rattle.courses.specs.declared.outcome.Fault.TheVariants.{Usage, BadElf, BadProfile, Unlike, ReadFault, WriteFault, OutOfMemory, TooWide, TooLarge, ProgramTooLarge, EntryOutside}

-- the exit status
abbrev pub status_of : Fault → ℕ
status_of Usage = 1
status_of (BadElf refusal) = 2
status_of (BadProfile refusal word) = 3
status_of (Unlike difference word) = 4
status_of (ReadFault word) = 5
status_of WriteFault = 6
status_of OutOfMemory = 7
status_of (TooWide head arc) = 8
status_of (TooLarge word limit) = 9
status_of (ProgramTooLarge need end) = 10
status_of (EntryOutside entry) = 11
