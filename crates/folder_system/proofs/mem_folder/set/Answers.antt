use Rattle.std.proofs.Common.{ap, ◌∙◌}
use Rattle.folder_system.proofs.MemoryLemmas.{set_file, push_file}
use Rattle.folder_system.specs.Memory.{files_of}
use Rattle.folder_system.proofs.mem_folder.set.Goals as goal

pub returns-in-Some-clause-done : goal.returns-in-Some-clause-done
returns-in-Some-clause-done c = set_file c.args.files.now.items c.in-Some.i c.args.file (cc)

pub returns-in_ok-push-in-None-clause-done : goal.returns-in_ok-push-in-None-clause-done
returns-in_ok-push-in-None-clause-done c = ap files_of c.in_ok-push-in-None.ensures.items ∙ push_file c.args.files.now.items c.args.file (cc)
