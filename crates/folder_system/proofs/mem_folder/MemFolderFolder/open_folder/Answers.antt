use Rattle.std.specs.Global.{Vec}
use Rattle.folder_system.specs.declared.mem_folder.MemFile.{MemFile}
use Rattle.std.proofs.Common.{ap}
use Rattle.folder_system.specs.Events.{FolderOpened, Answer, answer_of}
use Rattle.folder_system.specs.Memory.{files_of}
use Rattle.folder_system.proofs.MemoryLemmas.{told_after, by_kept, folder_files}
use Rattle.folder_system.proofs.mem_folder.MemFolderFolder.open_folder.Goals as goal

pub returns : goal.returns
returns c =
    let old = c.args.self.now in
    let now = c.note.new.self in
    told_after (λ (v : Answer). FolderOpened c.args.folder.now v) c.answer_of.result (answer_of c.call-done.result) old.files c.call-done.new.self.files now.files old.trace c.call-done.new.self.trace now.trace c.folder_opened-call.result c.answer_of.ensures c.folder_opened-call.ensures c.note.ensures.files c.call-done.ensures.same c.note.ensures.noted
    (by_kept (λ (v : Answer). FolderOpened c.args.folder.now v) c.call-done.result (files_of old.files.items) (files_of c.call-done.new.self.files.items) (λ answer. folder_files c.args.folder.now answer (files_of old.files.items)) (ap (λ (v : Vec MemFile). files_of v.items) c.call-done.ensures.files))
