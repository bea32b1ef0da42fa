use Rattle.std.proofs.Common.{refl}
use Rattle.folder_system.specs.Events.{Removed, Answer, answer_of}
use Rattle.folder_system.specs.Memory.{files_of}
use Rattle.folder_system.proofs.MemoryLemmas.{told_after, by_answer}
use Rattle.folder_system.proofs.mem_folder.MemFolderFolder.remove.Goals as goal

pub returns : goal.returns
returns c =
    let old = c.args.self.now in
    let now = c.note.new.self in
    told_after (λ (v : Answer). Removed c.args.name.now v) c.answer_of.result (answer_of c.removed-done.result) old.files c.removed-done.new.self.files now.files old.trace c.removed-done.new.self.trace now.trace c.removed-call.result c.answer_of.ensures c.removed-call.ensures c.note.ensures.files c.removed-done.ensures.same c.note.ensures.noted
    (by_answer (λ (v : Answer). Removed c.args.name.now v) c.removed-done.result (files_of old.files.items) (files_of c.removed-done.new.self.files.items) (λ kind. refl) c.removed-done.ensures.done c.removed-done.ensures.unchanged)
