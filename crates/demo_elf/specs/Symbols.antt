-- What the symbols of the code stand for.
-- Only private functions and invariants speak of it.
use Rattle.std.specs.Prelude.{ℕ, ◌<◌, ◌≤◌, ◌^◌, List, length, string_bytes}
use Rattle.std.specs.List.{All}
use Rattle.demo_elf.specs.declared.code.DemoSymbol.{DemoSymbol}

abbrev pub symbol_of : DemoSymbol → List ℕ × ℕ
symbol_of s = (string_bytes s.name, s.offset)

-- names of at most 15 bytes, offsets of at most 30 bits
abbrev pub IsSmall : DemoSymbol → Type 0
IsSmall s = (length (string_bytes s.name) ≤ 15) × (s.offset < 2 ^ 30)

-- at most 4,096 symbols, each of them small
pub record AreSmall (symbols : List DemoSymbol) : Type 0 where
  pub few : length symbols ≤ 4096
  pub each : All IsSmall symbols
