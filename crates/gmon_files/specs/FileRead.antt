-- What it means that a profile file was read in pieces.
use Rattle.std.specs.Prelude.{◌≡◌, ℕ, ◌<◌, ◌≤◌, List, length, Result, ⊤}
use Rattle.gp_base.specs.declared.records.Form.TheVariants.{Bsd, Gnu}
use Rattle.gmon_bsd.specs.Fed as bsd
use Rattle.gmon_gnu.specs.Fed as gnu
use Rattle.host_port.specs.declared.whole_file.LoadRefusal.{LoadRefusal}
use Rattle.host_port.specs.Outside.{Outside}
use Rattle.host_port.specs.Load.{ReadsAll}
use Rattle.gmon_files.specs.declared.file_reader.FileReader.{FileReader}
use Rattle.gmon_files.specs.declared.file_reader.FileReader.TheVariants as reader
use Rattle.gmon_data.specs.Content.{WideRec}
use Rattle.gmon_data.specs.FileRecords.{spelled_in, FitsForSome}
use Rattle.gmon_files.specs.Forms.{form_of, file_records, file_refusal}

-- what a file spells, as records of a profile
abbrev pub spelled_records : List ℕ → List WideRec
spelled_records = spelled_in file_records

-- how many bytes were fed
abbrev pub len_of : FileReader → ℕ
len_of (reader.Front front) = length front
len_of (reader.Bsd r) = r.len
len_of (reader.Gnu r) = r.len

-- fewer than four bytes are kept while they don't tell the form
abbrev pub IsFed : FileReader → Type 0
IsFed (reader.Front front) = length front < 4
IsFed (reader.Bsd r) = ⊤
IsFed (reader.Gnu r) = ⊤

-- a reader stands for the bytes that were fed to it: while they are fewer than four they are kept, and then they
-- tell the form
abbrev pub StandsFor : List ℕ → FileReader → Type 0
StandsFor bytes (reader.Front front) = (front ≡ bytes) × (length bytes < 4)
StandsFor bytes (reader.Bsd r) = bsd.StandsFor bytes r × (form_of bytes ≡ Bsd) × (4 ≤ length bytes)
StandsFor bytes (reader.Gnu r) = gnu.StandsFor bytes r × (form_of bytes ≡ Gnu) × (4 ≤ length bytes)

-- The reader stands for bytes that are refused, or spell records whose profile stays within its limits.
abbrev pub FitsProfile : FileReader → Type 0
FitsProfile r = FitsForSome (λ bytes. StandsFor bytes r) file_refusal spelled_records

-- a reader stands for some bytes, of which the number is known, and they are the file's; or it was not read
abbrev pub IsReadFrom : List ℕ → ℕ → Outside → Outside → Result (FileReader × ℕ) LoadRefusal → Type 0
IsReadFrom = ReadsAll StandsFor
