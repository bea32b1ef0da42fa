use Rattle.std.proofs.Common.{◌≡◌, ◌++◌, take, drop}
use Rattle.gmon_data.specs.ChunkSteps.{starts_with_one_more}
use Rattle.gmon_data.proofs.chunks.count_up.Given as goal

abbrev pub invariant-loop-k : goal.invariant-loop-k
invariant-loop-k l = l.starts ≡ take l.k (starts_with_one_more l.c l.fn.starts) ++ drop l.k l.fn.starts
