-- What a reader makes a profile of.
use Rattle.std.specs.Prelude.{ℕ, List}
use Rattle.gmon_data.specs.Content.{WideRec}
use Rattle.gmon_data.specs.FileRecords.{spelled_in, FitsForSome}
use Rattle.gmon_gnu.specs.Fed.{Kept, StandsFor}
use Rattle.gmon_gnu.specs.Reading.{gnu_refusal, gnu_records}

-- what a file spells, as records of a profile
abbrev pub spelled_records : List ℕ → List WideRec
spelled_records = spelled_in gnu_records

-- The reader stands for bytes that are refused, or spell records whose profile stays within its limits.
abbrev pub FitsProfile : Kept → Type 0
FitsProfile kept = FitsForSome (λ bytes. StandsFor bytes kept) gnu_refusal spelled_records
