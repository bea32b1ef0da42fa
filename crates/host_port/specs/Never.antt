-- A host that never fails, reads from memory and drops what is written.
use Rattle.std.specs.Prelude.{Bool, true, false, not, ◌&&◌, List, ℕ, Option, Some, None, is_some, if◌then◌else◌, ◌≡◌, refl, IfSome}
use Rattle.host_port.specs.declared.files.Place.{Place}
use Rattle.host_port.specs.Act.{File, Disk}
use Rattle.host_port.specs.Entries.{rest_at}
use Rattle.host_port.specs.Outside.{Outside, IsConsistent}

pub record Never : Type 0 where
  pub files : List File
  pub rest : Option (List ℕ)
  -- whether a read has come to the end of the open input
  pub at_end : Bool
  -- whether it still tells its files
  pub tells : Bool
  pub is_writing : Bool
  pub opened : ℕ
  pub file_changes : ℕ

-- it tells its files, and no output
abbrev pub outside_of : Never → Outside
outside_of n = record {
  disk = if n.tells then Some (record { files = n.files; writing = None }) else None;
  out = None;
  err = None;
  is_open = is_some n.rest;
  at_end = n.at_end;
  rest = if n.tells then n.rest else None;
  is_writing = not n.tells && n.is_writing;
  read_faults = 0;
  write_faults = 0;
  err_faults = 0;
  opened = n.opened;
  file_changes = n.file_changes;
  last_failed = false;
}

rest_told : (tells : Bool) (rest : Option (List ℕ)) (d : Disk) → is_some (if tells then rest else None) ≡ (is_some rest && is_some (if tells then Some d else None))
rest_told true None d = refl
rest_told true (Some bytes) d = refl
rest_told false None d = refl
rest_told false (Some bytes) d = refl

writing_told : (tells writes : Bool) (files : List File) → IfSome (if tells then Some (record { files = files; writing = None }) else None) (λ (d : Disk). is_some d.writing ≡ (not tells && writes))
writing_told true writes files = refl
writing_told false writes files = tt

pub is_consistent : (n : Never) → IsConsistent (outside_of n)
is_consistent n = record { rest = rest_told n.tells n.rest (record { files = n.files; writing = None }); writing = writing_told n.tells n.is_writing n.files }

abbrev pub rest_in : List File → Option Place → Option (List ℕ)
rest_in files None = None
rest_in files (Some place) = Some (rest_at files place)
