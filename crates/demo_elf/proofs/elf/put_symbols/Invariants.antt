use Rattle.std.proofs.Common.{◌≡◌, ◌≤◌, ◌+◌, ◌*◌, ◌++◌, drop, map}
use Rattle.demo_elf.specs.Elf.{symbols_text, symbols_from}
use Rattle.demo_elf.specs.Symbols.{symbol_of}
use Rattle.demo_elf.proofs.elf.put_symbols.Given as goal

abbrev pub invariant-loop-symbol : goal.invariant-loop-symbol
invariant-loop-symbol l = record {
  rest : l.bytes.items ++ symbols_from l.name (map symbol_of (drop l.symbol-index l.symbols)) ≡ l.fn.bytes.items ++ symbols_text (map symbol_of l.symbols);
  low : l.name ≤ 1 + 16 * l.symbol-index;
}
