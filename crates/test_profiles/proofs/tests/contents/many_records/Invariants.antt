use Rattle.std.proofs.Common.{◌+◌, map}
use Rattle.std.specs.List.{All}
use Rattle.gp_base.specs.Spans.{HasRange}
use Rattle.gmon_data.specs.Content.{empty_content, wide_block, wide_records, with_records}
use Rattle.test_profiles.specs.AtMost.{IsAtMost}
use Rattle.test_profiles.proofs.tests.contents.many_records.Given as goal

abbrev pub invariant-loop-i : goal.invariant-loop-i
invariant-loop-i l = IsAtMost (with_records (map wide_block l.blocks) empty_content) l.i

abbrev pub invariant-loop-k : goal.invariant-loop-k
invariant-loop-k l = record {
  few : IsAtMost (with_records (wide_records l.recs) empty_content) (100000 + l.k);
  ranges : All HasRange l.recs;
}
