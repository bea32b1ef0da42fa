use Rattle.std.proofs.Common.{drop, map}
use Rattle.gmon_data.proofs.RecordLemmas.{IsUnderway}
use Rattle.profile_sum.specs.Sum.{block_record}
use Rattle.profile_sum.proofs.addition.add_blocks.Given as goal

abbrev pub invariant-loop-i : goal.invariant-loop-i
invariant-loop-i l = IsUnderway (map block_record l.more.blocks) (map block_record (drop l.i l.more.blocks)) l.initial.total l.total
