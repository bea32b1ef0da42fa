use Rattle.std.proofs.Common.{Ok, sym, ◌∙◌}
use Rattle.folder_system.specs.Events.{Looked}
use Rattle.folder_system.proofs.Causes.{result_behind_call}
use Rattle.folder_system.proofs.Making.{looked, placed_behind, given_up_behind, over_ok, quiet_err}
use Rattle.folder_system.proofs.place.begin.Goals as goal

pub returns-then-is_in_the_way-clause-placed : goal.returns-then-is_in_the_way-clause-placed
returns-then-is_in_the_way-clause-placed g c =
    let told = g.F.Folder.history in
    over_ok c.args.name.now c.in_ok-found.found c.begin_in_place.result (told c.args.folder.now) (told c.look.new.self) (told c.begin_in_place.new.folder) (sym c.is_in_the_way.ensures ∙ c.if-is_in_the_way.true) c.in_ok-found.ensures c.begin_in_place.ensures.opened c.begin_in_place.ensures.place

pub returns-then-is_in_the_way-clause-given_up : goal.returns-then-is_in_the_way-clause-given_up
returns-then-is_in_the_way-clause-given_up g c =
    let told = g.F.Folder.history in
    quiet_err c.args.name.now c.begin_in_place.result (told c.args.folder.now) (told c.look.new.self) (told c.begin_in_place.new.folder) (looked c.args.name.now c.in_ok-found.found (told c.args.folder.now) (told c.look.new.self) c.in_ok-found.ensures) c.begin_in_place.ensures.not_opened

pub returns-then-is_in_the_way-clause-cause : goal.returns-then-is_in_the_way-clause-cause
returns-then-is_in_the_way-clause-cause g c =
    let told = g.F.Folder.history in
    result_behind_call (Looked c.args.name.now (Ok c.in_ok-found.found)) c.begin_in_place.result (told c.args.folder.now) (told c.look.new.self) (told c.begin_in_place.new.folder) c.in_ok-found.ensures c.begin_in_place.ensures.cause

pub returns-clause-placed : goal.returns-clause-placed
returns-clause-placed g c =
    let told = g.F.Folder.history in
    let clear = sym c.is_in_the_way.ensures ∙ c.if-is_in_the_way.false in
    placed_behind c.args.name.now c.in_ok-found.found c.attributes_of.result c.begin_beside.result (told c.args.folder.now) (told c.look.new.self) (told c.begin_beside.new.folder) c.attributes_of.ensures clear c.in_ok-found.ensures c.begin_beside.ensures.placed

pub returns-clause-given_up : goal.returns-clause-given_up
returns-clause-given_up g c =
    let told = g.F.Folder.history in
    let quiet = looked c.args.name.now c.in_ok-found.found (told c.args.folder.now) (told c.look.new.self) c.in_ok-found.ensures in
    given_up_behind c.args.name.now c.begin_beside.result (told c.args.folder.now) (told c.look.new.self) (told c.begin_beside.new.folder) quiet c.begin_beside.ensures.given_up

pub returns-clause-cause : goal.returns-clause-cause
returns-clause-cause g c =
    let told = g.F.Folder.history in
    result_behind_call (Looked c.args.name.now (Ok c.in_ok-found.found)) c.begin_beside.result (told c.args.folder.now) (told c.look.new.self) (told c.begin_beside.new.folder) c.in_ok-found.ensures c.begin_beside.ensures.cause
