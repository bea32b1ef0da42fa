use Rattle.std.proofs.Common.{◌≡◌, sym, ap, ◌∙◌}
use Rattle.std.specs.Global.{Vec}
use Rattle.std.specs.Prelude.{bytes_eq, false}
use Rattle.host_port.specs.Act.{file_content, with_file}
use Rattle.folder_system.specs.declared.mem_folder.MemFile.{MemFile}
use Rattle.folder_system.specs.Memory.{files_of}
use Rattle.folder_system.proofs.MemoryLemmas.{content_in, renamed_files}
use Rattle.folder_system.proofs.mem_folder.MemFolder.renamed.Goals as goal

pub returns-clause-done : goal.returns-clause-done
returns-clause-done c =
    let from = c.args.from.now in
    let to = c.args.to.now in
    let old = c.args.self.now.files.items in
    let bytes = c.in_ok-file.file.bytes.items in
    let same = ap (λ (v : Vec MemFile). v.items) c.in_ok-call.ensures.files in
    let put : files_of c.set.new.files.items ≡ with_file to bytes (files_of old) = c.in_ok-set.ensures.done ∙ (λ i. with_file (c.in_ok-file.ensures.name i) bytes (files_of (same i))) in
    let content : bytes ≡ file_content from (files_of old) =
    c.in_ok-file.ensures.bytes ∙ c.as_slice-2.ensures.value
    ∙ content_in from c.as_slice.result.now c.call.new.self.files.items old c.in-Some.i c.index-old.result.now c.as_slice.ensures.value same c.in-Some.ensures.place c.in-Some.ensures.in_range c.index-old.ensures in
    let other : bytes_eq from to ≡ false = sym c.eq.ensures ∙ c.if-eq.false in
    renamed_files from to bytes (files_of old) (files_of c.set.new.files.items) (files_of c.forget.new.files.items) other put c.forget.ensures content
