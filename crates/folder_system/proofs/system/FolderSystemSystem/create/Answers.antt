use Rattle.std.proofs.Common.{◌≡◌, Bool, ◌&&◌, [], ◌∷◌, Option, Some, None, sym, subst, ◌∙◌}
use Rattle.host_port.specs.Act.{Create, disk_after}
use Rattle.host_port.specs.Outside.{Becomes}
use Rattle.folder_system.specs.declared.place.Place.{Place}
use Rattle.folder_system.specs.Disk.{shown}
use Rattle.folder_system.specs.Events.{Follows}
use Rattle.folder_system.specs.Place.{IsPlaced, IsAnyPlaced, IsAfterLetGo, IsLetGo, IsGivenUp}
use Rattle.folder_system.proofs.Follows.{then_none}
use Rattle.folder_system.proofs.Ends.{after_let_go}
use Rattle.folder_system.proofs.Causes.{cause_behind}
use Rattle.std.specs.IoError.{error_kind}
use Rattle.folder_system.proofs.Shown.{begun_shown, becomes_then}
use Rattle.folder_system.proofs.system.FolderSystemSystem.create.Goals as goal

pub returns-in-Ok-clause-done : goal.returns-in-Ok-clause-done
returns-in-Ok-clause-done g c =
    let told = g.F.Folder.history in
    let name = c.args.name.now in
    let old = c.args.self.now in
    let mid = c.clear.new.self in
    let place = c.in-Ok.place in
    let now = c.let_go.new.folder in
    let none : c.replace-none.result ≡ None = c.replace-none.ensures.value ∙ c.clear.ensures.none in
    let gone = subst (λ (p : Option Place). Follows (IsLetGo p) (told c.begin.new.folder) (told now)) none c.let_go.ensures in
    let placed = then_none (IsPlaced name place) (told mid.folder) (told c.begin.new.folder) (told now) c.in-Ok.ensures.placed gone in
    let begun = begun_shown name mid.tells (told mid.folder) (told now) place placed in
    let from = subst (λ (p : Option Place). Becomes (disk_after (Create name ∷ [])) (shown told mid.tells p mid.folder) (shown told (mid.tells && c.is_beside.result) c.replace-none.new.dest now)) (sym c.clear.ensures.none)
    (subst (λ (q : Option Place). Becomes (disk_after (Create name ∷ [])) (shown told mid.tells None mid.folder) (shown told (mid.tells && c.is_beside.result) q now)) (sym c.replace-none.ensures.after)
    (subst (λ (b : Bool). Becomes (disk_after (Create name ∷ [])) (shown told mid.tells None mid.folder) (shown told (mid.tells && b) (Some place) now)) (sym c.is_beside.ensures) begun)) in
    becomes_then (disk_after (Create name ∷ [])) (shown told old.tells old.place old.folder) (shown told mid.tells mid.place mid.folder) (shown told (mid.tells && c.is_beside.result) c.replace-none.new.dest now) c.clear.ensures.told from

pub returns-in-Ok-clause-begun : goal.returns-in-Ok-clause-begun
returns-in-Ok-clause-begun g c =
    let told = g.F.Folder.history in
    let name = c.args.name.now in
    let old = c.args.self.now in
    let place = c.in-Ok.place in
    let now = c.let_go.new.folder in
    let none : c.replace-none.result ≡ None = c.replace-none.ensures.value ∙ c.clear.ensures.none in
    let gone = subst (λ (p : Option Place). Follows (IsLetGo p) (told c.begin.new.folder) (told now)) none c.let_go.ensures in
    let placed = then_none (IsPlaced name place) (told c.clear.new.self.folder) (told c.begin.new.folder) (told now) c.in-Ok.ensures.placed gone in
    subst (λ (p : Option Place). Follows (IsAfterLetGo old.place (IsAnyPlaced name p)) (told old.folder) (told now)) (sym c.replace-none.ensures.after)
    (after_let_go old.place (IsAnyPlaced name (Some place)) (told old.folder) (told c.clear.new.self.folder) (told now) c.clear.ensures.gone placed)

pub returns-in-Err-clause-given_up : goal.returns-in-Err-clause-given_up
returns-in-Err-clause-given_up g c =
    let told = g.F.Folder.history in
    after_let_go c.args.self.now.place (IsGivenUp c.args.name.now) (told c.args.self.now.folder) (told c.clear.new.self.folder) (told c.begin.new.folder) c.clear.ensures.gone c.in-Err.ensures.given_up

pub returns-in-Err-clause-cause : goal.returns-in-Err-clause-cause
returns-in-Err-clause-cause g c =
    let told = g.F.Folder.history in
    cause_behind (error_kind c.in-Err.e) (IsLetGo c.args.self.now.place) (told c.args.self.now.folder) (told c.clear.new.self.folder) (told c.begin.new.folder) c.clear.ensures.gone c.in-Err.ensures.cause
