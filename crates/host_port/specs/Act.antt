-- What a program does on the outside, and what that leaves in files and on the two outputs.
use Rattle.std.specs.Prelude.{ℕ, ◌+◌, ◌-◌, ◌^◌, min, Bool, true, false, List, [], ◌∷◌, ◌++◌, Option, Some, None, bytes_eq, if◌then◌else◌}

-- a file: its name and its bytes
abbrev pub File : Type 0
File = List ℕ × List ℕ

-- the bytes of the named file, none where there is no such file
abbrev pub file_content : List ℕ → List File → List ℕ
file_content name [] = []
file_content name (file ∷ files) = if bytes_eq file.0 name then file.1 else file_content name files

abbrev pub has_file : List ℕ → List File → Bool
has_file name [] = false
has_file name (file ∷ files) = if bytes_eq file.0 name then true else has_file name files

-- the files once the named one has these bytes
abbrev pub with_file : List ℕ → List ℕ → List File → List File
with_file name bytes [] = (name, bytes) ∷ []
with_file name bytes (file ∷ files) = if bytes_eq file.0 name then (file.0, bytes) ∷ files else file ∷ with_file name bytes files

-- the files once the named one has these bytes more
abbrev pub with_more : List ℕ → List ℕ → List File → List File
with_more name bytes [] = []
with_more name bytes (file ∷ files) = if bytes_eq file.0 name then (file.0, file.1 ++ bytes) ∷ files else file ∷ with_more name bytes files

-- the files, and the name of the one that is being written
pub record Disk : Type 0 where
  pub files : List File
  pub writing : Option (List ℕ)

pub data Act : Type 0 where
  -- make the named file empty, and begin to write it
  Create : List ℕ → Act
  -- write bytes at the end of the file that is being written
  Write : List ℕ → Act
  -- end the writing
  Close : Act
  -- print bytes on the output
  Out : List ℕ → Act
  -- print bytes on the error output
  Err : List ℕ → Act

-- the files once bytes were written to the one that is being written, if any is
abbrev pub files_with : List ℕ → Option (List ℕ) → List File → List File
files_with bytes None files = files
files_with bytes (Some name) files = with_more name bytes files

abbrev pub disk_after_act : Act → Disk → Disk
disk_after_act (Create name) d = record { files = with_file name [] d.files; writing = Some name }
disk_after_act (Write bytes) d = record { files = files_with bytes d.writing d.files; writing = d.writing }
disk_after_act Close d = record { files = d.files; writing = None }
disk_after_act (Out bytes) d = d
disk_after_act (Err bytes) d = d

abbrev pub disk_after : List Act → Disk → Disk
disk_after [] d = d
disk_after (act ∷ acts) d = disk_after acts (disk_after_act act d)

-- what acts print on the output
abbrev pub print_of : List Act → List ℕ
print_of [] = []
print_of (Out bytes ∷ acts) = bytes ++ print_of acts
print_of (Create name ∷ acts) = print_of acts
print_of (Write bytes ∷ acts) = print_of acts
print_of (Close ∷ acts) = print_of acts
print_of (Err bytes ∷ acts) = print_of acts

-- what acts print on the error output
abbrev pub complaint_of : List Act → List ℕ
complaint_of [] = []
complaint_of (Err bytes ∷ acts) = bytes ++ complaint_of acts
complaint_of (Create name ∷ acts) = complaint_of acts
complaint_of (Write bytes ∷ acts) = complaint_of acts
complaint_of (Close ∷ acts) = complaint_of acts
complaint_of (Out bytes ∷ acts) = complaint_of acts

-- whether a file is being written after acts
abbrev pub writes_after_act : Act → Bool → Bool
writes_after_act (Create name) before = true
writes_after_act (Write bytes) before = before
writes_after_act Close before = false
writes_after_act (Out bytes) before = before
writes_after_act (Err bytes) before = before

abbrev pub writes_after : List Act → Bool → Bool
writes_after [] before = before
writes_after (act ∷ acts) before = writes_after acts (writes_after_act act before)

-- one more, up to the largest number of 64 bits
abbrev pub next_count : ℕ → ℕ
next_count n = min (n + 1) (2 ^ 64 - 1)

-- how often files were created and closed after acts
abbrev pub file_changes_after_act : Act → ℕ → ℕ
file_changes_after_act (Create name) before = next_count before
file_changes_after_act (Write bytes) before = before
file_changes_after_act Close before = next_count before
file_changes_after_act (Out bytes) before = before
file_changes_after_act (Err bytes) before = before

abbrev pub file_changes_after : List Act → ℕ → ℕ
file_changes_after [] before = before
file_changes_after (act ∷ acts) before = file_changes_after acts (file_changes_after_act act before)
