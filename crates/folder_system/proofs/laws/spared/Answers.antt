use Rattle.folder_system.proofs.Steps.{spared as spared_at}
use Rattle.folder_system.proofs.laws.spared.Goals as goal

pub returns : goal.returns
returns c = spared_at
