use Rattle.std.proofs.Common.{arith}
use Rattle.std.proofs.lemmas.Grind.{common_steps}
use Rattle.host_port.proofs.whole_file.read_front.Goals as goal

pub returns-clause-moves : goal.returns-clause-moves
returns-clause-moves g c = grind (arith, common_steps)
