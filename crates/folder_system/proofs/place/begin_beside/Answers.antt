use Rattle.folder_system.specs.Events.{Follows}
use Rattle.folder_system.specs.Place.{IsBarred}
use Rattle.folder_system.proofs.Causes.{result_behind}
use Rattle.folder_system.proofs.Making.{barred_at, standing_ok, instead_err}
use Rattle.folder_system.proofs.place.begin_beside.Goals as goal

pub returns-in-None-clause-placed : goal.returns-in-None-clause-placed
returns-in-None-clause-placed g c =
    let told = g.F.Folder.history in
    let name = c.args.name.now in
    let barred = barred_at c.in_ok-output.field-0 (Follows (IsBarred name c.args.old) (told c.args.folder.now) (told c.make_like.new.folder)) c.in-None.is c.in_ok-output.ensures.barred in
    standing_ok name c.args.old c.begin_in_place.result (told c.args.folder.now) (told c.make_like.new.folder) (told c.begin_in_place.new.folder) barred c.begin_in_place.ensures.opened c.begin_in_place.ensures.place

pub returns-in-None-clause-given_up : goal.returns-in-None-clause-given_up
returns-in-None-clause-given_up g c =
    let told = g.F.Folder.history in
    let name = c.args.name.now in
    let barred = barred_at c.in_ok-output.field-0 (Follows (IsBarred name c.args.old) (told c.args.folder.now) (told c.make_like.new.folder)) c.in-None.is c.in_ok-output.ensures.barred in
    instead_err name c.args.old c.begin_in_place.result (told c.args.folder.now) (told c.make_like.new.folder) (told c.begin_in_place.new.folder) barred c.begin_in_place.ensures.not_opened

pub returns-in-None-clause-cause : goal.returns-in-None-clause-cause
returns-in-None-clause-cause g c =
    let told = g.F.Folder.history in
    let name = c.args.name.now in
    let barred = barred_at c.in_ok-output.field-0 (Follows (IsBarred name c.args.old) (told c.args.folder.now) (told c.make_like.new.folder)) c.in-None.is c.in_ok-output.ensures.barred in
    result_behind (IsBarred name c.args.old) c.begin_in_place.result (told c.args.folder.now) (told c.make_like.new.folder) (told c.begin_in_place.new.folder) barred c.begin_in_place.ensures.cause
