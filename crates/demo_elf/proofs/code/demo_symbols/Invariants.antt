use Rattle.std.proofs.Common.{◌≡◌, ◌∷◌, ◌+◌, map, length}
use Rattle.std.specs.Prelude.{codes}
use Rattle.std.specs.List.{range_with_len, All}
use Rattle.demo_elf.specs.Code.{function_symbol}
use Rattle.demo_elf.specs.Symbols.{symbol_of, IsSmall}
use Rattle.demo_elf.proofs.code.demo_symbols.Given as goal

abbrev pub invariant-loop-i : goal.invariant-loop-i
invariant-loop-i l = record {
  those : map symbol_of l.symbols.items ≡ (codes "_start", 0) ∷ (codes "_mcount", 32) ∷ map function_symbol (range_with_len 0 l.i);
  long : length l.symbols.items ≡ l.i + 2;
  small : All IsSmall l.symbols.items;
}
