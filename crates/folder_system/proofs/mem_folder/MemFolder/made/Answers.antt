use Rattle.std.proofs.Common.{ap, ◌∙◌}
use Rattle.std.specs.Global.{Vec}
use Rattle.folder_system.specs.declared.mem_folder.MemFile.{MemFile}
use Rattle.folder_system.proofs.MemoryLemmas.{fresh_at}
use Rattle.folder_system.proofs.mem_folder.MemFolder.made.Goals as goal

pub returns-clause-fresh : goal.returns-clause-fresh
returns-clause-fresh c =
    fresh_at c.args.name.now c.as_slice.result.now c.args.self.now.files.items c.find.result c.is_some.result c.is_some.ensures c.if-is_some.false c.find.ensures.place
    (c.as_slice.ensures.value ∙ ap (λ (v : Vec MemFile). v.items) c.in_ok-call.ensures.files)
