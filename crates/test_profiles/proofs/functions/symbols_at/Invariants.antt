use Rattle.std.proofs.Common.{◌≤◌}
use Rattle.std.specs.List.{All}
use Rattle.elf32_syms.specs.Owners.{IsAscending}
use Rattle.test_profiles.proofs.functions.symbols_at.Given as goal

abbrev pub invariant-loop-addr : goal.invariant-loop-addr
invariant-loop-addr l = record {
  ascending : IsAscending l.symbols;
  ended : All (λ s. s.end ≤ l.last) l.symbols;
}
