use Rattle.std.proofs.Common.{◌≡◌, ◌+◌, ◌*◌, map}
use Rattle.std.specs.List.{range_with_len}
use Rattle.elf32_syms.specs.Sections.{section_at}
use Rattle.elf32_syms.proofs.sections.read_sections.Given as goal

abbrev pub invariant-loop-index : goal.invariant-loop-index
invariant-loop-index l = l.sections.items ≡ map (λ i. section_at l.bytes (l.header.sections_at + 40 * i)) (range_with_len 0 l.index)
