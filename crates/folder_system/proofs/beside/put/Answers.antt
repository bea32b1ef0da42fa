use Rattle.std.proofs.Common.{◌≡◌, true, false, sym, ap, ◌∙◌}
use Rattle.std.specs.IoError.{error_kind}
use Rattle.system_host.specs.Told.{bytes_of}
use Rattle.folder_system.specs.Events.{Follows}
use Rattle.folder_system.specs.Kinds.{is_held}
use Rattle.folder_system.specs.Place.{IsHalted}
use Rattle.folder_system.proofs.Ends.{put_unlike, put_unseen, put_changed, put_done, put_held, put_unnamed}
use Rattle.folder_system.proofs.Making.{on_err}
use Rattle.folder_system.proofs.beside.put.Goals as goal

pub returns-then-not-takes-clause-put : goal.returns-then-not-takes-clause-put
returns-then-not-takes-clause-put g c =
    let told = g.F.Folder.history in
    let bytes = bytes_of (g.F.Output.Write.contents c.args.output.now) in
    put_unlike c.args.old c.args.own.now c.args.name.now bytes c.args.takes (told c.args.folder.now) (told c.store.new.folder) c.if-not-takes.true c.in_ok-store.ensures.stored

pub returns-in_err-seen-clause-halted : goal.returns-in_err-seen-clause-halted
returns-in_err-seen-clause-halted g c =
    let told = g.F.Folder.history in
    let bytes = bytes_of (g.F.Output.Write.contents c.args.output.now) in
    on_err c.from_residual-in_err-seen.result (Follows (IsHalted c.args.old c.args.takes c.args.own.now c.args.name.now bytes) (told c.args.folder.now) (told c.look.new.self))
    (put_unseen c.args.old c.args.own.now c.args.name.now bytes c.args.takes c.if-not-takes.false (error_kind c.in_err-seen.field-0.0) (told c.args.folder.now) (told c.store.new.folder) (told c.look.new.self) c.in_ok-store.ensures.stored c.in_err-seen.ensures)

pub returns-then-not-is_still-clause-put : goal.returns-then-not-is_still-clause-put
returns-then-not-is_still-clause-put g c =
    let told = g.F.Folder.history in
    let bytes = bytes_of (g.F.Output.Write.contents c.args.output.now) in
    put_changed c.args.old c.args.own.now c.args.name.now bytes c.args.takes c.if-not-takes.false c.in_ok-seen.seen (told c.args.folder.now) (told c.store.new.folder) (told c.look.new.self) (sym c.is_still.ensures ∙ c.if-not-is_still.true) c.in_ok-store.ensures.stored c.in_ok-seen.ensures

pub returns-in-Ok-clause-put : goal.returns-in-Ok-clause-put
returns-in-Ok-clause-put g c =
    let told = g.F.Folder.history in
    let bytes = bytes_of (g.F.Output.Write.contents c.args.output.now) in
    put_done c.args.old c.args.own.now c.args.name.now bytes c.args.takes c.if-not-takes.false c.in_ok-seen.seen (told c.args.folder.now) (told c.store.new.folder) (told c.look.new.self) (told c.rename.new.self) (sym c.is_still.ensures ∙ c.if-not-is_still.false) c.in_ok-store.ensures.stored c.in_ok-seen.ensures c.in-Ok.ensures

pub returns-in-Err-clause-put : goal.returns-in-Err-clause-put
returns-in-Err-clause-put g c =
    let told = g.F.Folder.history in
    let bytes = bytes_of (g.F.Output.Write.contents c.args.output.now) in
    let held : is_held (error_kind c.in-Err.e) ≡ true = ap is_held (sym c.kind.ensures) ∙ sym c.holds_name.ensures ∙ c.if-holds_name.true in
    put_held c.args.old c.args.own.now c.args.name.now bytes c.args.takes c.if-not-takes.false c.in_ok-seen.seen (error_kind c.in-Err.e) (told c.args.folder.now) (told c.store.new.folder) (told c.look.new.self) (told c.rename.new.self) (sym c.is_still.ensures ∙ c.if-not-is_still.false) held c.in_ok-store.ensures.stored c.in_ok-seen.ensures c.in-Err.ensures

pub returns-in-Err-2-clause-halted : goal.returns-in-Err-2-clause-halted
returns-in-Err-2-clause-halted g c =
    let told = g.F.Folder.history in
    let bytes = bytes_of (g.F.Output.Write.contents c.args.output.now) in
    let free : is_held (error_kind c.in-Err.e) ≡ false = ap is_held (sym c.kind.ensures) ∙ sym c.holds_name.ensures ∙ c.if-holds_name.false in
    put_unnamed c.args.old c.args.own.now c.args.name.now bytes c.args.takes c.if-not-takes.false c.in_ok-seen.seen (error_kind c.in-Err.e) (told c.args.folder.now) (told c.store.new.folder) (told c.look.new.self) (told c.rename.new.self) (sym c.is_still.ensures ∙ c.if-not-is_still.false) free c.in_ok-store.ensures.stored c.in_ok-seen.ensures c.in-Err.ensures
