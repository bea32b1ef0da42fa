-- What the kinds of errors say.
use Rattle.std.specs.Prelude.{Bool, true, false}
use Rattle.std.specs.declared.io.ErrorKind.{ErrorKind}
use Rattle.std.specs.declared.io.ErrorKind.TheVariants.{PermissionDenied, ReadOnlyFilesystem, InvalidFilename, InvalidInput, Unsupported, ResourceBusy, CrossesDevices, AlreadyExists}

-- no file can be made beside another, or not one like it
abbrev pub is_barring : ErrorKind → Bool
is_barring PermissionDenied = true
is_barring ReadOnlyFilesystem = true
is_barring InvalidFilename = true
is_barring InvalidInput = true
is_barring Unsupported = true
is_barring _ = false

-- something has the name already
abbrev pub is_taken : ErrorKind → Bool
is_taken AlreadyExists = true
is_taken _ = false

-- there is nothing to sync
abbrev pub is_no_sync : ErrorKind → Bool
is_no_sync InvalidInput = true
is_no_sync Unsupported = true
is_no_sync _ = false

-- No other file can have the name: a mount of its own stands there, or another's file in a folder of which
-- each may take away only their own.
abbrev pub is_held : ErrorKind → Bool
is_held ResourceBusy = true
is_held CrossesDevices = true
is_held PermissionDenied = true
is_held _ = false
