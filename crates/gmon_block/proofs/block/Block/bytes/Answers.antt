use Rattle.std.proofs.Common.{arith}
use Rattle.gmon_block.proofs.Writes.{counted}
use Rattle.gmon_block.proofs.block.Block.bytes.Goals as goal

pub returns-clause-size : goal.returns-clause-size
returns-clause-size c = grind (arith, counted)
