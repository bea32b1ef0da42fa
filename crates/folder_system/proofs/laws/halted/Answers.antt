use Rattle.folder_system.proofs.Steps.{halted_spares}
use Rattle.folder_system.proofs.laws.halted.Goals as goal

pub returns : goal.returns
returns c = halted_spares
