use Rattle.std.proofs.Common.{◌+◌, ◌*◌, ◌≤◌}
use Rattle.std.specs.List.{All}
use Rattle.elf32_syms.specs.Owners.{IsAscending}
use Rattle.test_profiles.proofs.functions.symbols_of.Given as goal

abbrev pub invariant-loop-i : goal.invariant-loop-i
invariant-loop-i l = record {
  ascending : IsAscending l.symbols;
  ended : All (λ s. s.end ≤ l.addr) l.symbols;
  low : l.addr ≤ 65536 + 256 * l._i;
}
