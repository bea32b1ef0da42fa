use Rattle.std.proofs.Common.{◌≡◌, ◌++◌, ◌∷◌, take, map}
use Rattle.std.specs.List.{flat_map}
use Rattle.demo_elf.specs.Elf.{string_text}
use Rattle.demo_elf.specs.Symbols.{symbol_of}
use Rattle.demo_elf.proofs.elf.put_strings.Given as goal

abbrev pub invariant-loop-symbol : goal.invariant-loop-symbol
invariant-loop-symbol l = l.bytes.items ≡ l.fn.bytes.items ++ 0 ∷ flat_map string_text (map symbol_of (take l.symbol-index l.symbols))
