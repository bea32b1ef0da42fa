-- What an output does, by the calls on its folder.
use Rattle.std.specs.Prelude.{◌≡◌, ◌⊎◌, ℕ, zero, suc, Bool, true, false, ◌||◌, List, [], ◌∷◌, ◌++◌, ◌==◌, ◌/◌, Option, Some, None, Ok, Err, bit_and, if◌then◌else◌, string_bytes, ⊤}
use Rattle.std.specs.declared.io.ErrorKind.{ErrorKind}
use Rattle.std.specs.declared.io.ErrorKind.TheVariants.{OutOfMemory, AlreadyExists}
use Rattle.host_port.specs.Act.{File, with_file, has_file}
use Rattle.folder_system.specs.declared.folder.Found.{Found}
use Rattle.folder_system.specs.declared.folder.Found.TheVariants.{Other}
use Rattle.folder_system.specs.declared.folder.Attributes.{Attributes}
use Rattle.folder_system.specs.declared.place.Place.{Place}
use Rattle.folder_system.specs.declared.place.Place.TheVariants.{Beside as StandsBeside, In}
use Rattle.folder_system.specs.declared.beside.Naming.{Naming}
use Rattle.folder_system.specs.declared.beside.Naming.TheVariants.{Done, Held}
use Rattle.folder_system.specs.declared.beside.Taken.{Taken}
use Rattle.folder_system.specs.declared.beside.Taken.TheVariants.{ByName, ByCopy}
use Rattle.folder_system.specs.Names.{folder_of, numbered}
use Rattle.folder_system.specs.Found.{bars_found, attributes_found, is_owned, is_like, is_still}
use Rattle.folder_system.specs.Kinds.{is_barring, is_taken, is_held}
use Rattle.folder_system.specs.Events.{Event, Looked, Made, LookedAt, Opened, Copied, Synced, Renamed, Removed, FolderOpened, NamesSynced, Answer, Sight, History, Follows, files_after, is_stored}
use Rattle.folder_system.specs.Entries.{Spares}

abbrev pub failed_removal : Event → Bool
failed_removal (Removed name (Some kind)) = true
failed_removal _ = false

abbrev pub has_failed_removal : List Event → Bool
has_failed_removal [] = false
has_failed_removal (e ∷ es) = failed_removal e || has_failed_removal es

-- ---- how an output is begun

-- The mode that it is made with, less what the process masks: 0666, or the permissions (0777) of the file that was
-- found, or 0600 where its group's bits (0070) aren't those of the others (0007).
abbrev pub mode_for : Option Attributes → ℕ
mode_for None = 438
mode_for (Some old) = if bit_and old.mode 56 / 8 == bit_and old.mode 7 then bit_and old.mode 511 else 384

-- a look that failed counts as one at something else
abbrev pub seen_in : Sight → Found
seen_in (Ok found) = found
seen_in (Err kind) = Other

-- the first names beside were tried, as many, and each is taken
abbrev pub tries : List ℕ → ℕ → ℕ → List Event
tries name mode zero = []
tries name mode (suc n) = tries name mode n ++ Made (numbered name n) mode (Some AlreadyExists) ∷ []

abbrev pub AreTaken : List ℕ → ℕ → ℕ → List File → List Event → Type 0
AreTaken name mode n fs es = es ≡ tries name mode n

-- one new file was made, by the first name beside that isn't taken, and then these calls were made
pub record IsMade (name own : List ℕ) (mode : ℕ) (looks : List Event) (fs : List File) (es : List Event) : Type 0 where
  pub number : ℕ
  pub next_to : own ≡ numbered name number
  pub fresh : has_file own fs ≡ false
  pub is : es ≡ tries name mode number ++ Made own mode None ∷ looks

-- making it is answered so that none can stand beside
pub record IsRefused (name : List ℕ) (mode : ℕ) (es : List Event) : Type 0 where
  pub number : ℕ
  pub kind : ErrorKind
  pub is : es ≡ tries name mode number ++ Made (numbered name number) mode (Some kind) ∷ []
  pub bars : is_barring kind ≡ true

-- or a thousand names beside are taken
abbrev pub IsUnmade : List ℕ → ℕ → List File → List Event → Type 0
IsUnmade name mode fs es = IsRefused name mode es ⊎ (es ≡ tries name mode 1000)

-- A new file stands beside an old one of the same owner, and is like it or isn't, which decides whether it takes the
-- name. Or it stands beside none.
abbrev pub IsBegun : List ℕ → List ℕ → Option Attributes → Bool → List File → List Event → Type 0
IsBegun name own None takes fs es = IsMade name own 438 [] fs es × (takes ≡ true)
IsBegun name own (Some old) takes fs es =
    (seen : Sight) × IsMade name own (mode_for (Some old)) (LookedAt seen ∷ []) fs es × (is_owned (seen_in seen) old ≡ true) × (is_like (seen_in seen) old ≡ takes)

-- the new file has another owner than the old one, and was taken away again
pub record IsForeign (name : List ℕ) (old : Attributes) (fs : List File) (es : List Event) : Type 0 where
  pub own : List ℕ
  pub front : List Event
  pub made : IsMade name own (mode_for (Some old)) [] fs front
  pub seen : Sight
  pub other : is_owned (seen_in seen) old ≡ false
  pub is : es ≡ (front ++ LookedAt seen ∷ []) ++ Removed own None ∷ []

-- none can stand beside
abbrev pub IsBarred : List ℕ → Option Attributes → List File → List Event → Type 0
IsBarred name None fs es = IsUnmade name 438 fs es
IsBarred name (Some old) fs es = IsUnmade name (mode_for (Some old)) fs es ⊎ IsForeign name old fs es

-- what stands at the name was opened to be written in place
abbrev pub IsOpened : List ℕ → List File → List Event → Type 0
IsOpened name fs es = es ≡ Opened name None ∷ []

-- it was barred, and then the named file was opened to be written in place
pub record IsInstead (name : List ℕ) (old : Option Attributes) (fs : List File) (es : List Event) : Type 0 where
  pub front : List Event
  pub barred : IsBarred name old fs front
  pub is : es ≡ front ++ Opened name None ∷ []

-- beside an old file with these attributes or beside none, or in place
abbrev pub IsStanding : List ℕ → Option Attributes → Place → List File → List Event → Type 0
IsStanding name old (StandsBeside beside) fs es = (string_bytes beside.name ≡ name) × (beside.old ≡ old) × IsBegun name (string_bytes beside.own) old beside.takes fs es
IsStanding name old (In held) fs es = (string_bytes held ≡ name) × IsInstead name old fs es

-- a file was found that one may stand beside, or none, and then this is so
pub record IsBehindFinding (name : List ℕ) (P : Option Attributes → List File → List Event → Type 0) (fs : List File) (es : List Event) : Type 0 where
  pub found : Found
  pub clear : bars_found found ≡ false
  pub behind : List Event
  pub is : es ≡ Looked name (Ok found) ∷ behind
  pub so : P (attributes_found found) fs behind

-- what none may stand beside was found, and opened to be written in place
pub record IsOverFound (name : List ℕ) (es : List Event) : Type 0 where
  pub found : Found
  pub bars : bars_found found ≡ true
  pub is : es ≡ Looked name (Ok found) ∷ Opened name None ∷ []

abbrev pub IsInPlace : List ℕ → List File → List Event → Type 0
IsInPlace name fs es = IsOverFound name es ⊎ IsBehindFinding name (IsInstead name) fs es

-- where an output of this name stands, and all calls that were made for it
abbrev pub IsPlaced : List ℕ → Place → List File → List Event → Type 0
IsPlaced name (StandsBeside beside) fs es = (string_bytes beside.name ≡ name) × IsBehindFinding name (λ old fs es. (beside.old ≡ old) × IsBegun name (string_bytes beside.own) old beside.takes fs es) fs es
IsPlaced name (In held) fs es = (string_bytes held ≡ name) × IsInPlace name fs es

abbrev pub IsIn : List ℕ → Place → Type 0
IsIn name (StandsBeside beside) = ⊥
IsIn name (In held) = string_bytes held ≡ name

abbrev pub is_beside : Place → Bool
is_beside (StandsBeside beside) = true
is_beside (In held) = false

-- ---- what is so of these calls

-- nothing is done to the named file, and the files are as they were
pub record IsQuiet (name : List ℕ) (fs : List File) (es : List Event) : Type 0 where
  pub spares : Spares name es
  pub files : files_after es fs ≡ fs

-- nothing is done to the named file, and there is one new file
pub record IsAlone (name own : List ℕ) (fs : List File) (es : List Event) : Type 0 where
  pub spares : Spares name es
  pub fresh : has_file own fs ≡ false
  pub files : files_after es fs ≡ with_file own [] fs

-- until it is opened in place nothing is done to the named file
abbrev pub BeginsCarefully : List ℕ → Place → List File → List Event → Type 0
BeginsCarefully name (StandsBeside beside) fs es = IsAlone name (string_bytes beside.own) fs es
BeginsCarefully name (In held) fs es = (before : List Event) × (es ≡ before ++ Opened name None ∷ []) × IsQuiet name fs before

-- ---- an output that isn't begun

-- one file is left that wasn't there, by a name beside, where removing it failed
pub record IsLeft (name : List ℕ) (fs : List File) (es : List Event) : Type 0 where
  pub own : List ℕ
  pub next_to : (n : ℕ) × (own ≡ numbered name n)
  pub fresh : has_file own fs ≡ false
  pub failed : has_failed_removal es ≡ true
  pub files : files_after es fs ≡ with_file own [] fs

abbrev pub IsTidy : List ℕ → List File → List Event → Type 0
IsTidy name fs es = (files_after es fs ≡ fs) ⊎ IsLeft name fs es

-- nothing is done to the named file, and nothing made is left unless removing failed
pub record IsGivenUp (name : List ℕ) (fs : List File) (es : List Event) : Type 0 where
  pub spares : Spares name es
  pub tidy : IsTidy name fs es

-- Of which kind the error of a call was behind which there is no other way. A name that is taken isn't such an error,
-- nor is an answer that bars an output from standing beside.
abbrev pub fault_kind : Event → Option ErrorKind
fault_kind (Looked name (Err kind)) = Some kind
fault_kind (Made name mode (Some kind)) = if is_barring kind || is_taken kind then None else Some kind
fault_kind (Opened name (Some kind)) = Some kind
fault_kind (Removed name (Some kind)) = Some kind
fault_kind _ = None

-- the last call failed, with an error of this kind
pub record HasFault (kind : ErrorKind) (fs : List File) (es : List Event) : Type 0 where
  pub front : List Event
  pub last : Event
  pub is : es ≡ front ++ last ∷ []
  pub so : fault_kind last ≡ Some kind

-- an error is want of memory, or that of the last call
abbrev pub HasCause : ErrorKind → Option History → Option History → Type 0
HasCause kind old new = (kind ≡ OutOfMemory) ⊎ Follows (HasFault kind) old new

-- ---- the end of an output

-- what was written stands in the file of this name
abbrev pub IsStored : List ℕ → List ℕ → List File → List Event → Type 0
IsStored name bytes fs es = (answer : Answer) × (es ≡ Synced name bytes answer ∷ []) × (is_stored answer ≡ true)

abbrev pub IsNotStored : List ℕ → List ℕ → List File → List Event → Type 0
IsNotStored name bytes fs es = (answer : Answer) × (es ≡ Synced name bytes answer ∷ []) × (is_stored answer ≡ false)

-- how the names of a folder were synced
pub data Settling : Type 0 where
  -- the folder couldn't be opened
  Unopened : ErrorKind → Settling
  -- it was opened, and syncing it answered so
  Settled : Answer → Settling

abbrev pub settling : List ℕ → Settling → List Event
settling name (Unopened kind) = FolderOpened (folder_of name) (Some kind) ∷ []
settling name (Settled answer) = FolderOpened (folder_of name) None ∷ NamesSynced (folder_of name) answer ∷ []

-- the names are synced, or there is nothing to sync, or nothing that can be opened
abbrev pub is_settled : Settling → Bool
is_settled (Unopened kind) = true
is_settled (Settled answer) = is_stored answer

abbrev pub IsSettling : List ℕ → Bool → List File → List Event → Type 0
IsSettling name ok fs es = (how : Settling) × (es ≡ settling name how) × (is_settled how ≡ ok)

-- the file beside was synced, what stands at the name was looked at, the name was given, and the folder was to be
-- synced
abbrev pub moving : List ℕ → List ℕ → List ℕ → Found → Answer → Settling → List Event
moving own name bytes seen synced how = Synced own bytes synced ∷ Looked name (Ok seen) ∷ Renamed own name None ∷ settling name how

-- why a file that was synced doesn't have the name
pub data Refusal : Type 0 where
  -- it isn't like the old one
  Unlike : Refusal
  -- this stands there
  Changed : Found → Refusal
  -- this stands there, and the name was refused
  Refused : Found → ErrorKind → Refusal

-- the file beside was synced, and doesn't have the name
abbrev pub refusing : List ℕ → List ℕ → List ℕ → Answer → Refusal → List Event
refusing own name bytes synced Unlike = Synced own bytes synced ∷ []
refusing own name bytes synced (Changed seen) = Synced own bytes synced ∷ Looked name (Ok seen) ∷ []
refusing own name bytes synced (Refused seen kind) = Synced own bytes synced ∷ Looked name (Ok seen) ∷ Renamed own name (Some kind) ∷ []

-- the new file isn't like the old one, or another file stands there than was found before, or the same and no other
-- can have the name
abbrev pub IsHeld : Option Attributes → Bool → Refusal → Type 0
IsHeld old takes Unlike = takes ≡ false
IsHeld old takes (Changed seen) = (takes ≡ true) × (is_still seen old ≡ false)
IsHeld old takes (Refused seen kind) = (takes ≡ true) × (is_still seen old ≡ true) × (is_held kind ≡ true)

-- the named file was written in place with what was written beside
abbrev pub copying : List ℕ → List ℕ → Answer → List Event
copying name bytes stored = Opened name None ∷ Copied None ∷ Synced name bytes stored ∷ []

-- the file beside was synced and has the name, in place of what was found before, or the name is held
abbrev pub IsPut : Option Attributes → Bool → List ℕ → List ℕ → List ℕ → Naming → List File → List Event → Type 0
IsPut old takes own name bytes Done fs es = (synced : Answer) × (seen : Found) × (es ≡ Synced own bytes synced ∷ Looked name (Ok seen) ∷ Renamed own name None ∷ []) × (is_stored synced ≡ true) × (is_still seen old ≡ true) × (takes ≡ true)
IsPut old takes own name bytes Held fs es = (synced : Answer) × (why : Refusal) × (es ≡ refusing own name bytes synced why) × (is_stored synced ≡ true) × IsHeld old takes why

-- it has the name, and the names of its folder could be synced, or could not be
pub record IsMoved (old : Option Attributes) (takes : Bool) (own name bytes : List ℕ) (ok : Bool) (es : List Event) : Type 0 where
  pub seen : Found
  pub synced : Answer
  pub how : Settling
  pub is : es ≡ moving own name bytes seen synced how
  pub stored : is_stored synced ≡ true
  pub still : is_still seen old ≡ true
  pub alike : takes ≡ true
  pub names : is_settled how ≡ ok

pub record IsCopied (old : Option Attributes) (takes : Bool) (own name bytes : List ℕ) (es : List Event) : Type 0 where
  pub synced : Answer
  pub why : Refusal
  pub copied : Answer
  pub removed : Answer
  pub is : es ≡ (refusing own name bytes synced why ++ copying name bytes copied) ++ Removed own removed ∷ []
  pub stored : is_stored synced ≡ true
  pub held : IsHeld old takes why
  pub whole : is_stored copied ≡ true

-- the named file has what was written
abbrev pub IsTaken : Option Attributes → Bool → List ℕ → List ℕ → List ℕ → Taken → List File → List Event → Type 0
IsTaken old takes own name bytes ByName fs es = IsMoved old takes own name bytes true es
IsTaken old takes own name bytes ByCopy fs es = IsCopied old takes own name bytes es

-- the file beside wasn't synced
pub record IsUnsynced (own bytes : List ℕ) (es : List Event) : Type 0 where
  pub synced : Answer
  pub is : es ≡ Synced own bytes synced ∷ []
  pub failed : is_stored synced ≡ false

-- what stands at the name can't be looked at
pub record IsUnseen (takes : Bool) (own name bytes : List ℕ) (es : List Event) : Type 0 where
  pub synced : Answer
  pub kind : ErrorKind
  pub is : es ≡ Synced own bytes synced ∷ Looked name (Err kind) ∷ []
  pub stored : is_stored synced ≡ true
  pub alike : takes ≡ true

-- it was refused a name that isn't held
pub record IsUnnamed (old : Option Attributes) (takes : Bool) (own name bytes : List ℕ) (es : List Event) : Type 0 where
  pub synced : Answer
  pub seen : Found
  pub kind : ErrorKind
  pub is : es ≡ refusing own name bytes synced (Refused seen kind)
  pub stored : is_stored synced ≡ true
  pub alike : takes ≡ true
  pub still : is_still seen old ≡ true
  pub free : is_held kind ≡ false

-- one call failed, the last: the named file was opened to be written, the one beside copied into it, or it was synced
abbrev pub IsHalf : List ℕ → List ℕ → List File → List Event → Type 0
IsHalf name bytes fs es = ((kind : ErrorKind) × (es ≡ Opened name (Some kind) ∷ []))
    ⊎ ((kind : ErrorKind) × (es ≡ Opened name None ∷ Copied (Some kind) ∷ []))
    ⊎ ((answer : Answer) × (es ≡ copying name bytes answer) × (is_stored answer ≡ false))

-- the name is held, and writing in place failed
pub record IsHalfCopied (old : Option Attributes) (takes : Bool) (own name bytes : List ℕ) (es : List Event) : Type 0 where
  pub synced : Answer
  pub why : Refusal
  pub behind : List Event
  pub is : es ≡ refusing own name bytes synced why ++ behind
  pub stored : is_stored synced ≡ true
  pub held : IsHeld old takes why
  pub half : IsHalf name bytes [] behind

-- the named file was written in place with what the other one has
abbrev pub IsOver : List ℕ → List ℕ → List File → List Event → Type 0
IsOver name bytes fs es = (answer : Answer) × (es ≡ copying name bytes answer) × (is_stored answer ≡ true)

abbrev pub IsHalted : Option Attributes → Bool → List ℕ → List ℕ → List ℕ → List File → List Event → Type 0
IsHalted old takes own name bytes fs es = IsUnsynced own bytes es ⊎ IsUnseen takes own name bytes es ⊎ IsUnnamed old takes own name bytes es

-- it was halted, and the file beside was to be taken away
pub record IsWithdrawn (old : Option Attributes) (takes : Bool) (own name bytes : List ℕ) (es : List Event) : Type 0 where
  pub front : List Event
  pub halted : IsHalted old takes own name bytes [] front ⊎ IsHalfCopied old takes own name bytes front
  pub removed : Answer
  pub is : es ≡ front ++ Removed own removed ∷ []

-- or it has the name, and a crash may undo that
abbrev pub IsLost : Option Attributes → Bool → List ℕ → List ℕ → List ℕ → List File → List Event → Type 0
IsLost old takes own name bytes fs es = IsWithdrawn old takes own name bytes es ⊎ IsMoved old takes own name bytes false es

-- the file beside was to be taken away
abbrev pub IsAway : List ℕ → List File → List Event → Type 0
IsAway own fs es = (answer : Answer) × (es ≡ Removed own answer ∷ [])

-- ---- an output that was let go, made or closed

abbrev pub IsLetGo : Option Place → List File → List Event → Type 0
IsLetGo None fs es = es ≡ []
IsLetGo (Some (StandsBeside beside)) fs es = IsAway (string_bytes beside.own) fs es
IsLetGo (Some (In held)) fs es = es ≡ []

-- what stood before was let go, and then
pub record IsAfterLetGo (old : Option Place) (P : List File → List Event → Type 0) (fs : List File) (es : List Event) : Type 0 where
  pub front : List Event
  pub behind : List Event
  pub is : es ≡ front ++ behind
  pub gone : IsLetGo old fs front
  pub so : P (files_after front fs) behind

abbrev pub IsAnyPlaced : List ℕ → Option Place → List File → List Event → Type 0
IsAnyPlaced name None fs es = ⊥
IsAnyPlaced name (Some place) fs es = IsPlaced name place fs es

-- an output ended, or failed to
abbrev pub IsEnded : Option Place → List ℕ → Bool → List File → List Event → Type 0
IsEnded None bytes ok fs es = (es ≡ []) × (ok ≡ true)
IsEnded (Some (StandsBeside beside)) bytes true fs es = (taken : Taken) × IsTaken beside.old beside.takes (string_bytes beside.own) (string_bytes beside.name) bytes taken fs es
IsEnded (Some (StandsBeside beside)) bytes false fs es = IsLost beside.old beside.takes (string_bytes beside.own) (string_bytes beside.name) bytes fs es
IsEnded (Some (In held)) bytes true fs es = IsStored (string_bytes held) bytes fs es
IsEnded (Some (In held)) bytes false fs es = IsNotStored (string_bytes held) bytes fs es

-- ---- whether the files are still told

abbrev pub stands_beside : Option Place → Bool
stands_beside None = false
stands_beside (Some place) = is_beside place

abbrev pub is_opening : Event → Bool
is_opening (Opened name answer) = true
is_opening _ = false

abbrev pub has_opening : List Event → Bool
has_opening [] = false
has_opening (e ∷ es) = is_opening e || has_opening es

-- the named file was written in place: from the beginning, or with what was written beside
abbrev pub IsWrittenInPlace : Option Place → List File → List Event → Type 0
IsWrittenInPlace None fs es = ⊥
IsWrittenInPlace (Some (StandsBeside beside)) fs es = has_opening es ≡ true
IsWrittenInPlace (Some (In held)) fs es = ⊤
