-- Files in memory, as contracts see them.
use Rattle.std.specs.Prelude.{ℕ, zero, suc, List, [], ◌∷◌, map, drop, Option, Some, None, option_map, bytes_eq, string_bytes, if◌then◌else◌}
use Rattle.host_port.specs.declared.files.Entry.{Entry}
use Rattle.host_port.specs.declared.files.Place.{Place}
use Rattle.host_port.specs.Act.{File}

abbrev pub file_of : Entry → File
file_of entry = (string_bytes entry.name, entry.bytes.items)

abbrev pub files_of : List Entry → List File
files_of entries = map file_of entries

-- which file has the name: the first of that name
abbrev pub place_of : List ℕ → List File → Option ℕ
place_of name [] = None
place_of name (file ∷ files) = if bytes_eq file.0 name then Some 0 else option_map suc (place_of name files)

-- the bytes of the file at a place
abbrev pub bytes_at : List File → ℕ → List ℕ
bytes_at [] i = []
bytes_at (file ∷ files) zero = file.1
bytes_at (file ∷ files) (suc i) = bytes_at files i

-- what is left of the file at a place
abbrev pub rest_at : List File → Place → List ℕ
rest_at files place = drop place.at (bytes_at files place.file)
