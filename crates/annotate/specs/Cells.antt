-- The cells of a symbol: the parts of its range cut at the multiples of 4.
use Rattle.std.specs.Prelude.{ℕ, ◌+◌, ◌-◌, ◌*◌, ◌/◌, max, min, List, map}
use Rattle.std.specs.List.{range_with_len}
use Rattle.gp_base.specs.declared.records.Span.{Span}
use Rattle.elf32_syms.specs.declared.image.Symbol.{Symbol}

-- word w is the addresses from 4 * w to below 4 * w + 4; this is the part of a symbol's range in it
abbrev pub part_in : Symbol → ℕ → Span
part_in s w = record { low = max s.addr (4 * w); high = min s.end (4 * w + 4) }

-- how many words the range reaches into
abbrev pub word_count : Symbol → ℕ
word_count s = (s.end + 3) / 4 - s.addr / 4

-- the part in each of them
abbrev pub cells_of : Symbol → List Span
cells_of s = map (part_in s) (range_with_len (s.addr / 4) (word_count s))
