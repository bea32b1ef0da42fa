use Rattle.std.proofs.Common.{◌≡◌, ◌≤◌, ℕ, length, take, filter_map}
use Rattle.std.specs.List.{range_with_len}
use Rattle.gmon_gnu.specs.Blocks.{block_at}
use Rattle.gmon_gnu.proofs.block_file.executed.Given as goal

-- of the counts so far
abbrev pub invariant-loop-i : goal.invariant-loop-i
invariant-loop-i l = record {
  counted : (low : ℕ) → l.number ≡ length (filter_map (block_at low l.counts) (take l.i (range_with_len 0 (length l.counts))));
  few : l.number ≤ l.i;
}
