use Rattle.std.proofs.Common.{rules, ap, ◌∙◌}
use Rattle.std.proofs.lemmas.Fn.{filter_same}
use Rattle.folder_system.proofs.MemoryLemmas.{kept_files}
use Rattle.folder_system.specs.Memory.{files_of}
use Rattle.folder_system.proofs.mem_folder.forget.Goals as goal

pub returns : goal.returns
returns c = ap files_of (filter_same _ _ _ (λ x b f' k. search rules) _ _ c.retain.ensures.filtered) ∙ kept_files c.args.name.now c.args.files.now.items
