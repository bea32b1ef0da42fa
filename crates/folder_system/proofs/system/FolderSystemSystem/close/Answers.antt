use Rattle.std.proofs.Common.{◌≡◌, [], ◌∷◌, Option, Some, string_bytes, sym, subst}
use Rattle.host_port.specs.Act.{Write, Close, disk_after}
use Rattle.host_port.specs.Outside.{Becomes}
use Rattle.system_host.specs.Told.{bytes_of}
use Rattle.folder_system.specs.declared.place.Place.{Place}
use Rattle.folder_system.specs.declared.place.Place.TheVariants.{Beside as StandsBeside}
use Rattle.folder_system.specs.declared.beside.Taken.{Taken}
use Rattle.folder_system.specs.Disk.{shown}
use Rattle.folder_system.specs.Events.{Follows}
use Rattle.folder_system.specs.Place.{IsTaken}
use Rattle.folder_system.proofs.Shown.{taken_shown}
use Rattle.folder_system.proofs.system.FolderSystemSystem.close.Goals as goal

pub returns-in-Ok-ByName-clause-done : goal.returns-in-Ok-ByName-clause-done
returns-in-Ok-ByName-clause-done g c =
    let told = g.F.Folder.history in
    let self = c.args.self.now in
    let beside = c.in-Some-Beside.beside in
    let bytes = bytes_of (g.F.Output.Write.contents c.args.output) in
    let place_is : self.place ≡ Some (StandsBeside beside) = cc (c.take.ensures.value, c.in-Some-Beside.is, c.in-Some-Beside.field-0-is) in
    let did = subst (λ (t : Taken). Follows (IsTaken beside.old beside.takes (string_bytes beside.own) (string_bytes beside.name) bytes t) (told self.folder) (told c.take_place.new.folder)) c.in-Ok-ByName.field-0-is c.in-Ok-ByName.ensures.taken in
    let taken = taken_shown bytes self.tells (told self.folder) (told c.take_place.new.folder) beside did in
    subst (λ (p : Option Place). Becomes (disk_after (Write bytes ∷ Close ∷ [])) (shown told self.tells p self.folder) (shown told self.tells c.take.new.self c.take_place.new.folder)) (sym place_is)
    (subst (λ (q : Option Place). Becomes (disk_after (Write bytes ∷ Close ∷ [])) (shown told self.tells (Some (StandsBeside beside)) self.folder) (shown told self.tells q c.take_place.new.folder)) (sym c.take.ensures.after) taken)
