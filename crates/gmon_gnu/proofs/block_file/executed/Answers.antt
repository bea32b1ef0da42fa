use Rattle.std.proofs.Common.{arith}
use Rattle.std.proofs.lemmas.List.{take_all}
use Rattle.std.proofs.lemmas.List.FromFn.{length-range_with_len}
use Rattle.gmon_gnu.proofs.BlockTextLemmas.{executed_more}
use Rattle.gmon_gnu.proofs.block_file.executed.Goals as goal

pub loop-i-preserved : goal.loop-i-preserved
loop-i-preserved c = grind (arith, executed_more)

pub returns : goal.returns
returns c = grind (arith, take_all, length-range_with_len)
