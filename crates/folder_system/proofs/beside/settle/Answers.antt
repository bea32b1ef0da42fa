use Rattle.std.proofs.Common.{◌≡◌, ℕ, true, false, List, None, Some, refl, sym, ap, ◌∙◌, subst}
use Rattle.std.specs.IoError.{error_kind}
use Rattle.host_port.specs.Outside.{Becomes}
use Rattle.folder_system.specs.Events.{FolderOpened, NamesSynced, after}
use Rattle.folder_system.specs.Kinds.{is_no_sync}
use Rattle.folder_system.proofs.Ends.{unopened, settled}
use Rattle.folder_system.proofs.beside.settle.Goals as goal

pub returns-in-Ok-sync_names-clause-settled : goal.returns-in-Ok-sync_names-clause-settled
returns-in-Ok-sync_names-clause-settled g c =
    let told = g.F.Folder.history in
    let opened = subst (λ (f : List ℕ). Becomes (after (FolderOpened f None)) (told c.args.folder.now) (told c.open_folder.new.self)) c.folder_of-names.ensures c.in-Ok.ensures in
    let synced = subst (λ (f : List ℕ). Becomes (after (NamesSynced f None)) (told c.open_folder.new.self) (told c.sync_names.new.self)) c.folder_of-names.ensures c.in-Ok-sync_names.ensures in
    settled c.args.name.now None true (told c.args.folder.now) (told c.open_folder.new.self) (told c.sync_names.new.self) refl opened synced

pub returns-in-Err-sync_names-clause-settled : goal.returns-in-Err-sync_names-clause-settled
returns-in-Err-sync_names-clause-settled g c =
    let told = g.F.Folder.history in
    let kind = error_kind c.in-Err-sync_names.e in
    let none : is_no_sync kind ≡ true = ap is_no_sync (sym c.kind.ensures) ∙ sym c.cannot_sync.ensures ∙ c.if-cannot_sync.true in
    let opened = subst (λ (f : List ℕ). Becomes (after (FolderOpened f None)) (told c.args.folder.now) (told c.open_folder.new.self)) c.folder_of-names.ensures c.in-Ok.ensures in
    let synced = subst (λ (f : List ℕ). Becomes (after (NamesSynced f (Some kind))) (told c.open_folder.new.self) (told c.sync_names.new.self)) c.folder_of-names.ensures c.in-Err-sync_names.ensures in
    settled c.args.name.now (Some kind) true (told c.args.folder.now) (told c.open_folder.new.self) (told c.sync_names.new.self) none opened synced

pub returns-in-Ok-clause-failed : goal.returns-in-Ok-clause-failed
returns-in-Ok-clause-failed g c =
    let told = g.F.Folder.history in
    let kind = error_kind c.in-Err-sync_names.e in
    let some : is_no_sync kind ≡ false = ap is_no_sync (sym c.kind.ensures) ∙ sym c.cannot_sync.ensures ∙ c.if-cannot_sync.false in
    let opened = subst (λ (f : List ℕ). Becomes (after (FolderOpened f None)) (told c.args.folder.now) (told c.open_folder.new.self)) c.folder_of-names.ensures c.in-Ok.ensures in
    let synced = subst (λ (f : List ℕ). Becomes (after (NamesSynced f (Some kind))) (told c.open_folder.new.self) (told c.sync_names.new.self)) c.folder_of-names.ensures c.in-Err-sync_names.ensures in
    settled c.args.name.now (Some kind) false (told c.args.folder.now) (told c.open_folder.new.self) (told c.sync_names.new.self) some opened synced

pub returns-clause-settled : goal.returns-clause-settled
returns-clause-settled g c =
    let told = g.F.Folder.history in
    let kind = error_kind c.in-Err.field-0 in
    let failed = subst (λ (f : List ℕ). Becomes (after (FolderOpened f (Some kind))) (told c.args.folder.now) (told c.open_folder.new.self)) c.folder_of-names.ensures c.in-Err.ensures in
    unopened c.args.name.now kind (told c.args.folder.now) (told c.open_folder.new.self) failed
