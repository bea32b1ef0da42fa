use Rattle.std.proofs.Common.{refl}
use Rattle.folder_system.specs.Events.{Made, Answer, answer_of}
use Rattle.folder_system.specs.Memory.{files_of}
use Rattle.folder_system.proofs.MemoryLemmas.{told_after, by_answer}
use Rattle.folder_system.proofs.mem_folder.MemFolderFolder.create_new.Goals as goal

pub returns-clause-done : goal.returns-clause-done
returns-clause-done c =
    let old = c.args.self.now in
    let now = c.note.new.self in
    told_after (λ (v : Answer). Made c.args.name.now c.args.mode v) c.answer_of.result (answer_of c.made-done.result) old.files c.made-done.new.self.files now.files old.trace c.made-done.new.self.trace now.trace c.made-call.result c.answer_of.ensures c.made-call.ensures c.note.ensures.files c.made-done.ensures.same c.note.ensures.noted
    (by_answer (λ (v : Answer). Made c.args.name.now c.args.mode v) c.made-done.result (files_of old.files.items) (files_of c.made-done.new.self.files.items) (λ kind. refl) c.made-done.ensures.done c.made-done.ensures.unchanged)
