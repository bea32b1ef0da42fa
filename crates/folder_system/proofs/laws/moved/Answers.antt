use Rattle.folder_system.proofs.Steps.{moved_careful, moved_whole, moved_crash, moved_durable}
use Rattle.folder_system.proofs.Shown.{moved_files}
use Rattle.folder_system.proofs.laws.moved.Goals as goal

pub returns : goal.returns
returns c = search (moved_careful, moved_whole, moved_crash, moved_durable, moved_files)
