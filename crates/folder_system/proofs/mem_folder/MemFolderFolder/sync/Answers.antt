use Rattle.std.proofs.Common.{◌≡◌, ℕ, List, ap, subst, ◌∙◌}
use Rattle.std.specs.Prelude.{IfOk, if◌then◌else◌}
use Rattle.host_port.specs.Act.{with_file}
use Rattle.folder_system.specs.Events.{Synced, Answer, after, answer_of, is_stored}
use Rattle.folder_system.specs.Memory.{event_of, files_of}
use Rattle.folder_system.proofs.MemoryLemmas.{told_after, untold}
use Rattle.folder_system.proofs.mem_folder.MemFolderFolder.sync.Goals as goal

pub returns-then-is_none : goal.returns-then-is_none
returns-then-is_none c =
    let old = c.args.self.now in
    let now = c.synced_opened.new.self in
    untold (after (Synced c.args.name.now c.args.output.now.items (answer_of c.synced_opened.result))) _ now.files.items old.trace now.trace c.is_none.result c.is_none.ensures c.if-is_none.true c.synced_opened.ensures.same

pub returns : goal.returns
returns c =
    let old = c.args.self.now in
    let now = c.note.new.self in
    let written = c.args.output.now.items in
    told_after (λ (v : Answer). Synced c.args.name.now written v) c.answer_of.result (answer_of c.synced-done.result) old.files c.synced-done.new.self.files now.files old.trace c.synced-done.new.self.trace now.trace c.synced-call.result c.answer_of.ensures
    (subst (λ (b : List ℕ). IfOk c.synced-call.result (λ call. event_of call ≡ Synced c.args.name.now b c.answer_of.result)) c.as_slice-3.ensures.value c.synced-call.ensures) c.note.ensures.files c.synced-done.ensures.same c.note.ensures.noted
    (c.synced-done.ensures.files ∙ ap (λ (b : List ℕ). if is_stored (answer_of c.synced-done.result) then with_file c.args.name.now b (files_of old.files.items) else files_of old.files.items) c.as_slice-2.ensures.value)
