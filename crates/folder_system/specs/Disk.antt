-- The files of a system over a folder, as its host shows them.
use Rattle.std.specs.Prelude.{◌≡◌, Bool, true, false, [], Option, Some, None, is_some, if◌then◌else◌, string_bytes, refl}
use Rattle.host_port.specs.Act.{Disk, with_file}
use Rattle.folder_system.specs.declared.place.Place.{Place}
use Rattle.folder_system.specs.declared.place.Place.TheVariants.{Beside as StandsBeside, In}
use Rattle.folder_system.specs.Events.{History, without}

-- an output that stands beside shows as the named file, empty until it is closed
abbrev pub disk_shown : Option Place → Option History → Option Disk
disk_shown place None = None
disk_shown None (Some t) = Some (record { files = t.files; writing = None })
disk_shown (Some (StandsBeside b)) (Some t) = Some (record { files = with_file (string_bytes b.name) [] (without (string_bytes b.own) t.files); writing = Some (string_bytes b.name) })
disk_shown (Some (In name)) (Some t) = None

-- what a system shows, while it tells
abbrev pub shown : {F : Type 0} → (F → Option History) → Bool → Option Place → F → Option Disk
shown tells_of tells place folder = if tells then disk_shown place (tells_of folder) else None

-- what is shown is told
pub input_told : (tells : Bool) (place : Option Place) (told : Option History) → is_some (if tells then disk_shown place told else None) ≡ true → is_some told ≡ true
input_told false place told is = absurd (let e : false ≡ true = is in cc)
input_told true place None is = absurd (let e : false ≡ true = is in cc)
input_told true place (Some t) is = refl
