use Rattle.std.proofs.Common.{◌≡◌, map}
use Rattle.std.specs.List.{filter, range_with_len}
use Rattle.elf32_syms.specs.Symbols.{entry_at, is_candidate}
use Rattle.elf32_syms.proofs.symbols.fitting.Given as goal

abbrev pub invariant-loop-number : goal.invariant-loop-number
invariant-loop-number l = l.entries.items ≡ filter (is_candidate l.sections) (map (entry_at l.table) (range_with_len 0 l.number))
