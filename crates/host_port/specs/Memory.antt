-- A host that holds files and outputs in memory.
use Rattle.std.specs.Prelude.{◌≡◌, ◌↔◌, ℕ, ◌-◌, ◌^◌, Bool, true, false, List, [], Option, Some, None, Result, is_ok, is_some, Contains, string_bytes, ◌&&◌, refl, if◌then◌else◌}
use Rattle.host_port.specs.declared.mem_host.HostCall.{HostCall}
use Rattle.host_port.specs.declared.mem_host.Stage.{Stage}
use Rattle.host_port.specs.declared.mem_host.Stage.TheVariants.{Idle, Reading, Writing}
use Rattle.host_port.specs.Act.{File, next_count}
use Rattle.host_port.specs.Outside.{Outside, IsConsistent}
use Rattle.host_port.specs.Entries.{rest_at}

pub record Memory : Type 0 where
  pub files : List File
  -- what is left of the open input, and whether a read has come to its end
  pub rest : Option (List ℕ)
  pub at_end : Bool
  -- the file that is being written
  pub writing : Option (List ℕ)
  pub out : List ℕ
  pub err : List ℕ
  -- how many calls were made, and the numbers of those that are to fail
  pub calls : ℕ
  pub marks : List ℕ
  -- how many bytes a call moves at most
  pub step : ℕ
  -- the kind of the first call that failed
  pub first_failed : Option HostCall
  pub read_faults : ℕ
  pub write_faults : ℕ
  pub err_faults : ℕ
  pub opened : ℕ
  pub file_changes : ℕ
  pub last_failed : Bool

-- it tells everything
abbrev pub outside_of : Memory → Outside
outside_of m = record {
  disk = Some (record { files = m.files; writing = m.writing });
  out = Some m.out;
  err = Some m.err;
  is_open = is_some m.rest;
  at_end = m.at_end;
  rest = m.rest;
  is_writing = is_some m.writing;
  read_faults = m.read_faults;
  write_faults = m.write_faults;
  err_faults = m.err_faults;
  opened = m.opened;
  file_changes = m.file_changes;
  last_failed = m.last_failed;
}

abbrev pub empty_memory : Memory
empty_memory = record {
  files = [];
  rest = None;
  at_end = false;
  writing = None;
  out = [];
  err = [];
  calls = 0;
  marks = [];
  step = 2 ^ 64 - 1;
  first_failed = None;
  read_faults = 0;
  write_faults = 0;
  err_faults = 0;
  opened = 0;
  file_changes = 0;
  last_failed = false;
}

rest_told : (rest : Option (List ℕ)) → is_some rest ≡ (is_some rest && true)
rest_told None = refl
rest_told (Some bytes) = refl

pub is_consistent : (m : Memory) → IsConsistent (outside_of m)
is_consistent m = record { rest = rest_told m.rest; writing = refl }

abbrev pub rest_of : List File → Stage → Option (List ℕ)
rest_of files Idle = None
rest_of files (Reading place) = Some (rest_at files place)
rest_of files (Writing name) = None

abbrev pub writing_of : Stage → Option (List ℕ)
writing_of Idle = None
writing_of (Reading place) = None
writing_of (Writing name) = Some (string_bytes name)

-- the call that comes is to fail
abbrev pub IsMarked : Memory → Type 0
IsMarked m = Contains m.marks m.calls

-- the first call that failed, after one more that failed
abbrev pub first_failure : Option HostCall → HostCall → Option HostCall
first_failure None call = Some call
first_failure (Some first) call = Some first

-- none is the first exactly where none failed
abbrev pub IsFirstOf : Option HostCall → ℕ → Type 0
IsFirstOf first faults = (first ≡ None) ↔ (faults ≡ 0)

-- one call was counted, and no mark changed; a call that failed is the first unless another was
pub record Called {T E : Type 0} (call : HostCall) (old new : Memory) (result : Result T E) : Type 0 where
  pub calls : new.calls ≡ next_count old.calls
  pub marks : new.marks ≡ old.marks
  pub step : new.step ≡ old.step
  pub first_failed : new.first_failed ≡ (if is_ok result then old.first_failed else first_failure old.first_failed call)

-- a count of faults has one more exactly after a failure
abbrev pub Tallies : {T E : Type 0} → (Memory → ℕ) → Memory → Memory → Result T E → Type 0
Tallies count old new result = count new ≡ (if is_ok result then count old else next_count (count old))
