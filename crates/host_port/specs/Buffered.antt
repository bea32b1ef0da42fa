-- Bytes that go to a side in pieces, of which some are pending.
use Rattle.std.specs.Prelude.{◌≡◌, ℕ, ◌<◌, true, List, [], ◌∷◌, ◌++◌, length, take, Result, OnOk, OnErr, ⊤}
use Rattle.host_port.specs.Outside.{Outside, Did, KeepsInput}
use Rattle.host_port.specs.Host.{act_of, CountsOf, KeepsLast}
use Rattle.host_port.specs.declared.side.Side.{Side}
use Rattle.host_port.specs.declared.side.Side.TheVariants.{File, Output, ErrorOutput}

-- bytes may go to the side: to a file where one is being written
abbrev pub IsReady : Side → Outside → Type 0
IsReady File outside = outside.is_writing ≡ true
IsReady Output outside = ⊤
IsReady ErrorOutput outside = ⊤

-- Bytes were put behind those that were pending. What went to the side and what is pending then are together what
-- was pending before and the bytes. After a failure nothing is pending, and a prefix of that went out which isn't
-- the whole.
pub record Adds {T E : Type 0} (side : Side) (bytes before after : List ℕ) (old new : Outside) (result : Result T E) : Type 0 where
  pub went : OnOk result ((gone : List ℕ) × (before ++ bytes ≡ gone ++ after) × Did (act_of side gone ∷ []) old new)
  pub part : OnErr result ((n : ℕ) × (n < length (before ++ bytes)) × Did (act_of side (take n (before ++ bytes)) ∷ []) old new)
  pub emptied : OnErr result (after ≡ [])
  pub input : KeepsInput old new
  pub counts : CountsOf side old new result
  pub last : KeepsLast side old new
