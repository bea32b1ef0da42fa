-- What a folder in memory tells.
use Rattle.std.specs.Prelude.{◌≡◌, List, [], ◌∷◌, ◌++◌, map, Option, Some, None, Result, Ok, Err, ⊤, string_bytes}
use Rattle.std.specs.Global.{Vec}
use Rattle.host_port.specs.Act.{File}
use Rattle.folder_system.specs.declared.mem_folder.MemFile.{MemFile}
use Rattle.folder_system.specs.declared.mem_folder.Call.{Call}
use Rattle.folder_system.specs.declared.mem_folder.Call.TheVariants as call
use Rattle.folder_system.specs.Events.{Event, Looked, Made, LookedAt, Opened, Copied, Synced, Renamed, Removed, FolderOpened, NamesSynced, History}

abbrev pub file_of : MemFile → File
file_of file = (string_bytes file.name, file.bytes.items)

abbrev pub files_of : List MemFile → List File
files_of files = map file_of files

abbrev pub event_of : Call → Event
event_of (call.Looked name found) = Looked (string_bytes name) found
event_of (call.Made name mode answer) = Made (string_bytes name) mode answer
event_of (call.LookedAt found) = LookedAt found
event_of (call.Opened name answer) = Opened (string_bytes name) answer
event_of (call.Copied answer) = Copied answer
event_of (call.Synced name bytes answer) = Synced (string_bytes name) bytes.items answer
event_of (call.Renamed from to answer) = Renamed (string_bytes from) (string_bytes to) answer
event_of (call.Removed name answer) = Removed (string_bytes name) answer
event_of (call.FolderOpened folder answer) = FolderOpened (string_bytes folder) answer
event_of (call.NamesSynced folder answer) = NamesSynced (string_bytes folder) answer

-- the files that stand there and the calls so far, where there was memory to note each
abbrev pub told : List MemFile → Option (Vec Call) → Option History
told files None = None
told files (Some calls) = Some (record { files = files_of files; events = map event_of calls.items })

-- a call was noted behind the others, or none is known any more
abbrev pub Noted : {E : Type 0} → Option (Vec Call) → Result Call E → Option (Vec Call) → Type 0
Noted old one None = ⊤
Noted None one (Some new) = ⊥
Noted (Some old) (Err e) (Some new) = ⊥
Noted (Some old) (Ok one) (Some new) = new.items ≡ old.items ++ one ∷ []
