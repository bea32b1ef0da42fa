-- A system of one file in memory.
use Rattle.std.specs.Prelude.{ℕ, Bool, List, [], ◌∷◌, Some, None, if◌then◌else◌}
use Rattle.host_port.specs.Act.{Disk}

pub record Held : Type 0 where
  pub name : List ℕ
  -- the bytes of the file, of which there are none while it is being written
  pub bytes : List ℕ
  pub is_writing : Bool
  pub out : List ℕ
  pub err : List ℕ

abbrev pub disk_of : Held → Disk
disk_of h = record { files = (h.name, h.bytes) ∷ []; writing = if h.is_writing then Some h.name else None }
