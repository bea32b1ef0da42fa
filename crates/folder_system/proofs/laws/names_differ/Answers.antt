use Rattle.folder_system.proofs.NameLemmas.{apart}
use Rattle.folder_system.proofs.laws.names_differ.Goals as goal

pub returns : goal.returns
returns c = λ name own n is. apart name n own is
