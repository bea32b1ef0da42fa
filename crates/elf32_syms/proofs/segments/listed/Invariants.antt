use Rattle.std.proofs.Common.{◌≡◌, ◌+◌, ◌*◌}
use Rattle.std.specs.List.{filter_map, range_with_len}
use Rattle.elf32_syms.specs.Segments.{segment_at}
use Rattle.elf32_syms.proofs.segments.listed.Given as goal

abbrev pub invariant-loop-index : goal.invariant-loop-index
invariant-loop-index l = l.segments ≡ filter_map (λ i. segment_at l.bytes (l.header.programs_at + 32 * i)) (range_with_len 0 l.index)
