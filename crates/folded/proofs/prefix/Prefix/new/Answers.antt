use Rattle.std.proofs.Common.{arith}
use Rattle.folded.proofs.prefix.Prefix.new.Goals as goal

pub returns-clause-prefix : goal.returns-clause-prefix
returns-clause-prefix c = grind arith
