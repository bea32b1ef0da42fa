use Rattle.std.proofs.Common.{arith}
use Rattle.prof_machine.proofs.runs.Run.exec_counts.Goals as goal

pub returns-clause-within : goal.returns-clause-within
returns-clause-within c = grind arith
