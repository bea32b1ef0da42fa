use Rattle.std.specs.Global.{Vec}
use Rattle.folder_system.specs.declared.mem_folder.MemFile.{MemFile}
use Rattle.std.proofs.Common.{Ok, ap, refl}
use Rattle.folder_system.specs.Events.{LookedAt, Sight, found_by}
use Rattle.folder_system.specs.Memory.{files_of}
use Rattle.folder_system.proofs.MemoryLemmas.{told_after}
use Rattle.folder_system.proofs.mem_folder.MemFolderFolder.look_at.Goals as goal

pub returns : goal.returns
returns c =
    let old = c.args.self.now in
    let now = c.note.new.self in
    told_after (λ (v : Sight). LookedAt v) c.found_by.result (found_by c.last-done.result) old.files c.last-done.new.self.files now.files old.trace c.last-done.new.self.trace now.trace (Ok _) c.found_by.ensures refl c.note.ensures.files c.last-done.ensures.same c.note.ensures.noted
    (ap (λ (v : Vec MemFile). files_of v.items) c.last-done.ensures.files)
