use Rattle.std.proofs.Common.{◌+◌, ◌*◌, length, slice_index}
use Rattle.std.specs.List.{range_with_len}
use Rattle.gmon_cells.proofs.PuttingLemmas.{HasPut}
use Rattle.gmon_gnu.specs.Blocks.{pair_bytes}
use Rattle.gmon_gnu.proofs.block_file.put_pairs.Given as goal

abbrev pub invariant-loop-i : goal.invariant-loop-i
invariant-loop-i g l = HasPut (λ i. pair_bytes (l.low + 4 * i) (slice_index l.counts i)) (range_with_len 0 (length l.counts)) l.i l.initial.out l.out (g.H.Host.outside l.initial.host) (g.H.Host.outside l.host)
