use Rattle.std.proofs.Common.{arith}
use Rattle.std.proofs.lemmas.Grind.{common_steps}
use Rattle.host_port.proofs.mem_host.MemHost.take_rest.Goals as goal

pub returns-clause-came : goal.returns-clause-came
returns-clause-came c = grind (arith, common_steps)
