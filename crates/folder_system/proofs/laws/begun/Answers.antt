use Rattle.folder_system.proofs.Calls.{careful}
use Rattle.folder_system.proofs.laws.begun.Goals as goal

pub returns : goal.returns
returns c = careful
