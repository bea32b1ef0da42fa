use Rattle.system_host.specs.Told.{bytes_of}
use Rattle.folder_system.proofs.Ends.{all_copied, over, not_over}
use Rattle.folder_system.proofs.beside.copy_over.Goals as goal

pub returns-clause-over : goal.returns-clause-over
returns-clause-over g c =
    let told = g.F.Folder.history in
    let contents = g.F.Output.Write.contents in
    let opened = told c.open_over.new.self in
    let copied = told c.copy.new.self in
    let bytes = bytes_of (contents c.args.new.now) in
    let now = bytes_of (contents c.copy.new.output) in
    let same = all_copied opened copied (bytes_of (contents c.in_ok-output.output)) now bytes c.in_ok-output.ensures.empty c.in_ok-copy.ensures.done c.in_ok-copy.ensures.all in
    over c.args.name.now bytes now c.store.result (told c.args.folder.now) opened copied (told c.store.new.folder) same c.in_ok-output.ensures.done c.in_ok-copy.ensures.done c.store.ensures.stored

pub returns-clause-not_over : goal.returns-clause-not_over
returns-clause-not_over g c =
    let told = g.F.Folder.history in
    let contents = g.F.Output.Write.contents in
    let opened = told c.open_over.new.self in
    let copied = told c.copy.new.self in
    let bytes = bytes_of (contents c.args.new.now) in
    let now = bytes_of (contents c.copy.new.output) in
    let same = all_copied opened copied (bytes_of (contents c.in_ok-output.output)) now bytes c.in_ok-output.ensures.empty c.in_ok-copy.ensures.done c.in_ok-copy.ensures.all in
    not_over c.args.name.now bytes now c.store.result (told c.args.folder.now) opened copied (told c.store.new.folder) same c.in_ok-output.ensures.done c.in_ok-copy.ensures.done c.store.ensures.not_stored
