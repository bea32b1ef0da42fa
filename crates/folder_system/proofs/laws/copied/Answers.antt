use Rattle.folder_system.proofs.Steps.{refusing_spares, copying_whole, removed_spares}
use Rattle.folder_system.proofs.laws.copied.Goals as goal

pub returns : goal.returns
returns c = record { refused = refusing_spares; whole = copying_whole; removed = removed_spares }
