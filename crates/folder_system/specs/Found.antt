-- What stands at a name.
use Rattle.std.specs.Prelude.{◌≡◌, Bool, true, false, ◌||◌, ◌&&◌, ◌==◌, nat_lt, bit_and, Option, Some, None, Result, Ok, Err}
use Rattle.std.specs.Fs.{IsFile, file_type, metadata_mode}
use Rattle.std.specs.IoError.{error_kind}
use Rattle.std.specs.declared.fs.attrs.Metadata.{Metadata}
use Rattle.std.specs.declared.io.Error.{Error}
use Rattle.std.specs.declared.io.ErrorKind.{ErrorKind}
use Rattle.std.specs.declared.io.ErrorKind.TheVariants.{NotFound}
use Rattle.folder_system.specs.declared.folder.Found.{Found}
use Rattle.folder_system.specs.declared.folder.Found.TheVariants.{Nothing, File, Other}
use Rattle.folder_system.specs.declared.folder.Attributes.{Attributes}

-- No output may stand beside it: it is no regular file, or one of several names, or its mode has one of the
-- three bits above those of permission (07000), or not the one by which its owner may write (0200).
abbrev pub bars_found : Found → Bool
bars_found Nothing = false
bars_found (File attributes) = nat_lt 1 attributes.links || nat_lt 0 (bit_and attributes.mode 3584) || bit_and attributes.mode 128 == 0
bars_found Other = true

abbrev pub attributes_found : Found → Option Attributes
attributes_found Nothing = None
attributes_found (File attributes) = Some attributes
attributes_found Other = None

-- a file has the owner of the old one
abbrev pub is_owned : Found → Attributes → Bool
is_owned (File new) old = new.owner == old.owner
is_owned _ old = false

-- a file has the device, the owner, the group and the mode of the old one
abbrev pub is_like : Found → Attributes → Bool
is_like (File new) old = new.device == old.device && new.owner == old.owner && new.group == old.group && new.mode == old.mode
is_like _ old = false

-- there stands what was found before: the old file, as it was, or nothing
abbrev pub is_still : Found → Option Attributes → Bool
is_still Nothing None = true
is_still (File now) (Some old) = now.inode == old.inode && now.links == old.links && is_like (File now) old
is_still _ old = false

-- what is known of a file: it is a regular one, and its mode, or it is something else
abbrev pub IsFoundIn : Metadata → Found → Type 0
IsFoundIn known Nothing = ⊥
IsFoundIn known (File attributes) = IsFile (file_type known) × (attributes.mode ≡ metadata_mode known)
IsFoundIn known Other = IsFile (file_type known) → ⊥

-- an error says that nothing stands there
abbrev pub is_missing : ErrorKind → Bool
is_missing NotFound = true
is_missing _ = false

abbrev pub IsFoundFrom : Result Metadata Error → Result Found Error → Type 0
IsFoundFrom (Ok known) (Ok found) = IsFoundIn known found
IsFoundFrom (Ok known) (Err e) = ⊥
IsFoundFrom (Err e) (Ok found) = (found ≡ Nothing) × (is_missing (error_kind e) ≡ true)
IsFoundFrom (Err e) (Err f) = (f ≡ e) × (is_missing (error_kind e) ≡ false)
