use Rattle.std.specs.Global.{Vec}
use Rattle.folder_system.specs.declared.mem_folder.MemFile.{MemFile}
use Rattle.std.proofs.Common.{ap}
use Rattle.folder_system.specs.Events.{Looked, Sight, found_by}
use Rattle.folder_system.specs.Memory.{files_of}
use Rattle.folder_system.proofs.MemoryLemmas.{told_after}
use Rattle.folder_system.proofs.mem_folder.MemFolderFolder.look.Goals as goal

pub returns : goal.returns
returns c =
    let old = c.args.self.now in
    let now = c.note.new.self in
    told_after (λ (v : Sight). Looked c.args.name.now v) c.found_by.result (found_by c.found-done.result) old.files c.found-done.new.self.files now.files old.trace c.found-done.new.self.trace now.trace c.looked-call.result c.found_by.ensures c.looked-call.ensures c.note.ensures.files c.found-done.ensures.same c.note.ensures.noted
    (ap (λ (v : Vec MemFile). files_of v.items) c.found-done.ensures.files)
