-- The symbol that owns an address.
use Rattle.std.specs.Prelude.{ℕ, ◌<◌, ◌≤◌, Bool, ◌&&◌, nat_lt, nat_le, List, length, All, Option, position}
use Rattle.std.specs.List.{AllAdjacentBelow}
use Rattle.elf32_syms.specs.declared.image.Symbol.{Symbol}

-- no symbol is empty, and each ends at or before the next one's address
pub record IsAscending (symbols : List Symbol) : Type 0 where
  pub each : All (λ (s : Symbol). s.addr < s.end) symbols
  pub apart : AllAdjacentBelow (λ (s : Symbol) (next : Symbol). s.end ≤ next.addr) symbols (length symbols)

-- the address lies in the symbol
abbrev pub owns : ℕ → Symbol → Bool
owns pc s = nat_le s.addr pc && nat_lt pc s.end

-- the place of the symbol in which the address lies, if there is one
abbrev pub owner_of : List Symbol → ℕ → Option ℕ
owner_of symbols pc = position (owns pc) symbols
