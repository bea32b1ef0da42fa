-- The host over a system, as contracts see it.
use Rattle.std.specs.Prelude.{◌≡◌, ℕ, Bool, ◌&&◌, List, [], ◌∷◌, Option, Some, None, option_map, is_some, IfSome, if◌then◌else◌, refl}
use Rattle.host_port.specs.Act.{Disk, Write, Close, disk_after}
use Rattle.host_port.specs.Outside.{Outside, IsConsistent}
use Rattle.system_host.specs.Told.{Change}

pub record Seen : Type 0 where
  -- what the system tells of its files, without what was written to the one that is open
  pub disk : Option Disk
  pub out : Option (List ℕ)
  pub err : Option (List ℕ)
  -- the calls that made and closed files, where the system tells them
  pub changes : Option (List Change)
  -- what is left of the open input; none where it isn't told
  pub input : Option (List ℕ)
  -- whether a read has come to the end of the open input
  pub at_end : Bool
  -- what was written to the open output, likewise
  pub output : Option (List ℕ)
  pub read_faults : ℕ
  pub write_faults : ℕ
  pub err_faults : ℕ
  pub opened : ℕ
  pub file_changes : ℕ
  pub last_failed : Bool

-- the files with what was written to the one that is open. With none open none is being written.
abbrev pub disk_with : Option (List ℕ) → Disk → Disk
disk_with None d = disk_after (Close ∷ []) d
disk_with (Some bytes) d = disk_after (Write bytes ∷ []) d

-- whether a file is being written, by the files where they are told
abbrev pub writes_with : Option (List ℕ) → Option Disk → Bool
writes_with output None = is_some output
writes_with output (Some d) = is_some (disk_with output d).writing

abbrev pub outside_of : Seen → Outside
outside_of s = record {
  disk = option_map (disk_with s.output) s.disk;
  out = s.out;
  err = s.err;
  is_open = is_some s.input;
  at_end = s.at_end;
  rest = if is_some s.disk then s.input else None;
  is_writing = writes_with s.output s.disk;
  read_faults = s.read_faults;
  write_faults = s.write_faults;
  err_faults = s.err_faults;
  opened = s.opened;
  file_changes = s.file_changes;
  last_failed = s.last_failed;
}

rest_told : (input output : Option (List ℕ)) (disk : Option Disk) → is_some (if is_some disk then input else None) ≡ (is_some input && is_some (option_map (disk_with output) disk))
rest_told None output None = refl
rest_told None output (Some d) = refl
rest_told (Some bytes) output None = refl
rest_told (Some bytes) output (Some d) = refl

writing_told : (output : Option (List ℕ)) (disk : Option Disk) → IfSome (option_map (disk_with output) disk) (λ d. is_some d.writing ≡ writes_with output disk)
writing_told output None = tt
writing_told output (Some d) = refl

pub is_consistent : (s : Seen) → IsConsistent (outside_of s)
is_consistent s = record { rest = rest_told s.input s.output s.disk; writing = writing_told s.output s.disk }
