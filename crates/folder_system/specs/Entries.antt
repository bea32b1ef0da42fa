-- What stands at the names of folders, and what a crash may leave there, as calls go on.
use Rattle.std.specs.Prelude.{◌≡◌, ◌⊎◌, ℕ, Bool, false, ◌||◌, List, [], ◌∷◌, ◌++◌, take, None, if◌then◌else◌, bytes_eq}
use Rattle.std.specs.List.{AllByRecursion}
use Rattle.folder_system.specs.Names.{folder_of}
use Rattle.folder_system.specs.Events.{Event, Made, Opened, Synced, Renamed, Removed, NamesSynced, is_stored, Answer}

pub data FileState : Type 0 where
  Absent : FileState
  -- a file with these bytes
  Whole : List ℕ → FileState
  -- a file with any bytes
  Torn : FileState

pub record Entry : Type 0 where
  -- what stands there, which a kill leaves
  pub now : FileState
  -- what a crash leaves of the file itself, whatever its name is then
  pub stored : FileState
  -- what a crash may leave at this name
  pub left : List FileState

-- by names
abbrev pub Entries : Type 0
Entries = List ℕ → Entry

abbrev pub entry_set : List ℕ → Entry → Entries → Entries
entry_set name entry entries = λ n. if bytes_eq n name then entry else entries n

-- a file whose bytes were written: a sync stores them
abbrev pub written : List ℕ → Answer → Entry → Entry
written bytes None old = record { now = Whole bytes; stored = Whole bytes; left = old.left ++ Whole bytes ∷ [] }
written bytes answer old = if is_stored answer then record { now = Whole bytes; stored = Torn; left = old.left ++ Torn ∷ [] } else old

-- One call. Where it failed all names are as they were. What is written may be torn by a crash until it is
-- synced, and a change of a name may be undone by one until the names of its folder are synced.
abbrev pub entries_after_event : Event → Entries → Entries
entries_after_event (Made name mode None) w = entry_set name (record { now = Torn; stored = Torn; left = (w name).left ++ Torn ∷ [] }) w
entries_after_event (Opened name None) w = entry_set name (record { now = Torn; stored = Torn; left = (w name).left ++ Torn ∷ [] }) w
entries_after_event (Synced name bytes answer) w = entry_set name (written bytes answer (w name)) w
entries_after_event (Renamed from to None) w = entry_set to (record { now = (w from).now; stored = (w from).stored; left = (w to).left ++ (w from).stored ∷ [] })
    (entry_set from (record { now = Absent; stored = Absent; left = (w from).left ++ Absent ∷ [] }) w)
entries_after_event (Removed name None) w = entry_set name (record { now = Absent; stored = Absent; left = (w name).left ++ Absent ∷ [] }) w
entries_after_event (NamesSynced folder None) w = λ n. if bytes_eq (folder_of n) folder then record { now = (w n).now; stored = (w n).stored; left = (w n).stored ∷ [] } else w n
entries_after_event _ w = w

abbrev pub entries_after : List Event → Entries → Entries
entries_after [] w = w
entries_after (e ∷ es) w = entries_after es (entries_after_event e w)

-- whether a call may change what stands at a name, or what a crash may leave there
abbrev pub touches : List ℕ → Event → Bool
touches name (Made n mode None) = bytes_eq name n
touches name (Opened n None) = bytes_eq name n
touches name (Synced n bytes answer) = bytes_eq name n
touches name (Renamed from to None) = bytes_eq name to || bytes_eq name from
touches name (Removed n None) = bytes_eq name n
touches name (NamesSynced folder None) = bytes_eq (folder_of name) folder
touches name _ = false

-- no call touches the name
abbrev pub Spares : List ℕ → List Event → Type 0
Spares name es = AllByRecursion (λ e. touches name e ≡ false) es

abbrev pub IsAmong : List FileState → FileState → Type 0
IsAmong [] s = ⊥
IsAmong (x ∷ xs) s = (s ≡ x) ⊎ IsAmong xs s

-- the old content or the whole new one, before and after each call
abbrev pub IsCareful : List ℕ → List ℕ → List Event → Type 0
IsCareful name bytes es = (w : Entries) (k : ℕ) →
    let entry = entries_after (take k es) w name in (entry.now ≡ (w name).now) ⊎ (entry.now ≡ Whole bytes)

-- and so what a crash may leave there
abbrev pub IsCarefulInCrash : List ℕ → List ℕ → List Event → Type 0
IsCarefulInCrash name bytes es = (w : Entries) (k : ℕ) (s : FileState) →
    IsAmong (entries_after (take k es) w name).left s → IsAmong (w name).left s ⊎ (s ≡ Whole bytes)
