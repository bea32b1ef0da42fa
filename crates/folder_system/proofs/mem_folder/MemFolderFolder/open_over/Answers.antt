use Rattle.std.proofs.Common.{refl}
use Rattle.folder_system.specs.Events.{Opened, Answer, answer_of}
use Rattle.folder_system.specs.Memory.{files_of}
use Rattle.folder_system.proofs.MemoryLemmas.{told_after, by_answer}
use Rattle.folder_system.proofs.mem_folder.MemFolderFolder.open_over.Goals as goal

pub returns-clause-done : goal.returns-clause-done
returns-clause-done c =
    let old = c.args.self.now in
    let now = c.note.new.self in
    told_after (λ (v : Answer). Opened c.args.name.now v) c.answer_of.result (answer_of c.opened-done.result) old.files c.opened-done.new.self.files now.files old.trace c.opened-done.new.self.trace now.trace c.opened-call.result c.answer_of.ensures c.opened-call.ensures c.note.ensures.files c.opened-done.ensures.same c.note.ensures.noted
    (by_answer (λ (v : Answer). Opened c.args.name.now v) c.opened-done.result (files_of old.files.items) (files_of c.opened-done.new.self.files.items) (λ kind. refl) c.opened-done.ensures.done c.opened-done.ensures.unchanged)
