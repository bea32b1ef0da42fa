-- The calls on a folder with their answers, and the files that they leave.
use Rattle.std.specs.Prelude.{◌≡◌, ℕ, Bool, true, List, [], ◌∷◌, ◌++◌, Option, Some, None, Result, Ok, Err, if◌then◌else◌, bytes_eq, ⊤}
use Rattle.std.specs.IoError.{error_kind}
use Rattle.std.specs.declared.io.Error.{Error}
use Rattle.std.specs.declared.io.ErrorKind.{ErrorKind}
use Rattle.host_port.specs.Act.{File, file_content, with_file}
use Rattle.folder_system.specs.declared.folder.Found.{Found}
use Rattle.folder_system.specs.Kinds.{is_no_sync}

-- none where a call was done, and else of which kind its error was
abbrev pub Answer : Type 0
Answer = Option ErrorKind

abbrev pub answer_of : {T : Type 0} → Result T Error → Answer
answer_of (Ok done) = None
answer_of (Err e) = Some (error_kind e)

-- what was found, or of which kind the error was
abbrev pub Sight : Type 0
Sight = Result Found ErrorKind

abbrev pub found_by : Result Found Error → Sight
found_by (Ok found) = Ok found
found_by (Err e) = Err (error_kind e)

pub data Event : Type 0 where
  -- what stands at a name was looked up
  Looked : List ℕ → Sight → Event
  -- a new file was made with a mode, less what the process masks
  Made : List ℕ → ℕ → Answer → Event
  -- an open file was looked at
  LookedAt : Sight → Event
  -- what stands at a name was made empty, or a new file, to be written in place
  Opened : List ℕ → Answer → Event
  -- what was written to a new file was written to an output too
  Copied : Answer → Event
  -- the file that was opened by a name, to which these bytes were written, was synced
  Synced : List ℕ → List ℕ → Answer → Event
  -- a file was given another name
  Renamed : List ℕ → List ℕ → Answer → Event
  Removed : List ℕ → Answer → Event
  FolderOpened : List ℕ → Answer → Event
  -- the names of a folder were synced
  NamesSynced : List ℕ → Answer → Event

-- what a folder tells
pub record History : Type 0 where
  -- the regular files. A file that is being written has no bytes until it is synced.
  pub files : List File
  -- the calls so far
  pub events : List Event

-- the files but for the named one
abbrev pub without : List ℕ → List File → List File
without name [] = []
without name (file ∷ files) = if bytes_eq file.0 name then without name files else file ∷ without name files

-- all that was written stands in the file: it was synced, or there is nothing to sync
abbrev pub is_stored : Answer → Bool
is_stored None = true
is_stored (Some kind) = is_no_sync kind

abbrev pub files_after_event : Event → List File → List File
files_after_event (Made name mode None) files = with_file name [] files
files_after_event (Opened name None) files = with_file name [] files
files_after_event (Synced name bytes answer) files = if is_stored answer then with_file name bytes files else files
files_after_event (Renamed from to None) files = with_file to (file_content from files) (without from files)
files_after_event (Removed name None) files = without name files
files_after_event _ files = files

abbrev pub files_after : List Event → List File → List File
files_after [] files = files
files_after (e ∷ es) files = files_after es (files_after_event e files)

abbrev pub all_after : List Event → History → History
all_after es h = record { files = files_after es h.files; events = h.events ++ es }

abbrev pub after : Event → History → History
after e h = all_after (e ∷ []) h

-- Calls led from what was told to what is told, and this is so of them and of the files that there were.
pub record Transition (P : List File → List Event → Type 0) (old : Option History) (new : History) : Type 0 where
  pub was : History
  pub told : old ≡ Some was
  pub calls : List Event
  pub is : new ≡ all_after calls was
  pub so : P was.files calls

-- what is still told came about by calls of which this is so
abbrev pub Follows : (List File → List Event → Type 0) → Option History → Option History → Type 0
Follows P old None = ⊤
Follows P old (Some new) = Transition P old new
