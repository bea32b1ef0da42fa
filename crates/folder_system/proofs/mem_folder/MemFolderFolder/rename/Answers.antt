use Rattle.std.proofs.Common.{refl}
use Rattle.folder_system.specs.Events.{Renamed, Answer, answer_of}
use Rattle.folder_system.specs.Memory.{files_of}
use Rattle.folder_system.proofs.MemoryLemmas.{told_after, by_answer}
use Rattle.folder_system.proofs.mem_folder.MemFolderFolder.rename.Goals as goal

pub returns : goal.returns
returns c =
    let old = c.args.self.now in
    let now = c.note.new.self in
    told_after (λ (v : Answer). Renamed c.args.from.now c.args.to.now v) c.answer_of.result (answer_of c.renamed-done.result) old.files c.renamed-done.new.self.files now.files old.trace c.renamed-done.new.self.trace now.trace c.renamed-call.result c.answer_of.ensures c.renamed-call.ensures c.note.ensures.files c.renamed-done.ensures.same c.note.ensures.noted
    (by_answer (λ (v : Answer). Renamed c.args.from.now c.args.to.now v) c.renamed-done.result (files_of old.files.items) (files_of c.renamed-done.new.self.files.items) (λ kind. refl) c.renamed-done.ensures.done c.renamed-done.ensures.unchanged)
