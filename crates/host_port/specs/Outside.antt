-- The outside of a program, as far as a host tells it, before and after calls on it.
use Rattle.std.specs.Prelude.{◌≡◌, ℕ, zero, suc, ◌+◌, ◌-◌, ◌^◌, ◌≤◌, min, Bool, ◌&&◌, List, ◌++◌, Option, Some, None, option_map, is_some, IfSome, ⊤}
use Rattle.host_port.specs.Act.{Act, Disk, disk_after, print_of, complaint_of, writes_after, next_count, file_changes_after}

-- what a host tells of the outside. Each content is there only where the host tells it.
pub record Outside : Type 0 where
  -- the files, and the name of the one that is being written
  pub disk : Option Disk
  -- what was printed on the output and on the error output
  pub out : Option (List ℕ)
  pub err : Option (List ℕ)
  -- whether an input is open, whether a read has come to its end, and what is left of it
  pub is_open : Bool
  pub at_end : Bool
  pub rest : Option (List ℕ)
  pub is_writing : Bool
  -- how often reading, writing and complaining failed
  pub read_faults : ℕ
  pub write_faults : ℕ
  pub err_faults : ℕ
  -- how many calls were made to open an input, and how often files were created and closed
  pub opened : ℕ
  pub file_changes : ℕ
  -- whether the last call failed. A call that complains leaves it as it is.
  pub last_failed : Bool

-- the same once so many calls more were made to open an input
abbrev pub count_after : ℕ → ℕ → ℕ
count_after zero before = before
count_after (suc n) before = next_count (count_after n before)

abbrev pub with_openings : ℕ → Outside → Outside
with_openings n o = record o { opened = count_after n o.opened }

-- What is left of the input is told exactly while one is open and the files are told. With the files
-- the name of the file that is being written is told.
pub record IsConsistent (o : Outside) : Type 0 where
  pub rest : is_some o.rest ≡ (o.is_open && is_some o.disk)
  pub writing : IfSome o.disk (λ d. is_some d.writing ≡ o.is_writing)

-- What is still told was told before, and is this function of what it was. A host may stop telling a
-- content at any call, and then never tells it again.
abbrev pub Becomes : {T : Type 0} → (T → T) → Option T → Option T → Type 0
Becomes f old None = ⊤
Becomes f old (Some new) = option_map f old ≡ Some new

-- the acts were done, nothing else was done to files and outputs, and no input was opened
pub record Did (acts : List Act) (old new : Outside) : Type 0 where
  pub disk : Becomes (disk_after acts) old.disk new.disk
  pub out : Becomes (λ bytes. bytes ++ print_of acts) old.out new.out
  pub err : Becomes (λ bytes. bytes ++ complaint_of acts) old.err new.err
  pub writing : new.is_writing ≡ writes_after acts old.is_writing
  pub file_changes : new.file_changes ≡ file_changes_after acts old.file_changes
  pub opened : new.opened ≡ old.opened

-- the input stays as it was
pub record KeepsInput (old new : Outside) : Type 0 where
  pub open_stays : new.is_open ≡ old.is_open
  pub end_stays : new.at_end ≡ old.at_end
  pub rest_stays : Becomes (λ rest. rest) old.rest new.rest

-- a count of faults rose, or stands at its end
pub record Rose (before now : ℕ) : Type 0 where
  pub kept : before ≤ now
  pub more : min (before + 1) (2 ^ 64 - 1) ≤ now

-- no count of faults changed
pub record KeepsCounts (old new : Outside) : Type 0 where
  pub read : new.read_faults ≡ old.read_faults
  pub write : new.write_faults ≡ old.write_faults
  pub err : new.err_faults ≡ old.err_faults
