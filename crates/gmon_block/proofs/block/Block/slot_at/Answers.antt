use Rattle.std.proofs.Common.{arith}
use Rattle.gmon_block.proofs.Writes.{counted}
use Rattle.gmon_block.proofs.block.Block.slot_at.Goals as goal

pub returns : goal.returns
returns c = let n = counted c.self.inside c.args.self.now c.self.view_is in omega (arith, n.tos, n.counters)
