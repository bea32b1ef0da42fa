use Rattle.std.proofs.Common.{Ok, ap, refl}
use Rattle.std.specs.Global.{Vec}
use Rattle.folder_system.specs.declared.mem_folder.MemFile.{MemFile}
use Rattle.folder_system.specs.Events.{Copied, Answer, answer_of}
use Rattle.folder_system.specs.Memory.{files_of}
use Rattle.folder_system.proofs.MemoryLemmas.{told_after}
use Rattle.folder_system.proofs.mem_folder.MemFolderFolder.copy.Goals as goal

pub returns-clause-done : goal.returns-clause-done
returns-clause-done c =
    let old = c.args.self.now in
    let now = c.note.new.self in
    told_after (λ (v : Answer). Copied v) c.answer_of.result (answer_of c.copied-done.result) old.files c.copied-done.new.self.files now.files old.trace c.copied-done.new.self.trace now.trace (Ok _) c.answer_of.ensures refl c.note.ensures.files c.copied-done.ensures.same c.note.ensures.noted
    (ap (λ (v : Vec MemFile). files_of v.items) c.copied-done.ensures.files)
