use Rattle.std.proofs.Common.{refl, ◌∙◌}
use Rattle.folder_system.proofs.MemoryLemmas.{content_in, none_of}
use Rattle.folder_system.proofs.mem_folder.MemFolder.bytes.Goals as goal

pub returns-in_err-i : goal.returns-in_err-i
returns-in_err-i c = rw c.from_residual.ensures (none_of c.args.name.now c.as_slice.result.now c.args.self.now.files.items c.in_err-i.ensures.place c.as_slice.ensures.value)

pub returns : goal.returns
returns c =
    c.as_slice-2.ensures.value
    ∙ content_in c.args.name.now c.as_slice.result.now c.args.self.now.files.items c.args.self.now.files.items c.in_ok-i.i c.index.result.now c.as_slice.ensures.value refl c.in_ok-i.ensures.place c.in_ok-i.ensures.in_range c.index.ensures
