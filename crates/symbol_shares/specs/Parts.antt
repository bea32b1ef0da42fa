-- Which part of a bucket lies in a symbol.
use Rattle.std.specs.Prelude.{◌≡◌, ℕ, ◌+◌, ◌-◌, ◌*◌, ◌<◌, ◌≤◌, min, max, List, length, true}
use Rattle.std.specs.List.{list_any}
use Rattle.gmon_data.specs.declared.hist.Hist.{Hist}
use Rattle.elf32_syms.specs.declared.image.Symbol.{Symbol}
use Rattle.elf32_syms.specs.Owners.{owns}
use Rattle.symbol_shares.specs.Shares.{bucket_begin}

-- the whole of bucket i lies in the symbol
pub record IsInside (h : Hist) (i : ℕ) (s : Symbol) : Type 0 where
  pub from : s.addr * length h.counters ≤ bucket_begin h i
  pub to : bucket_begin h (i + 1) ≤ s.end * length h.counters

-- how much of bucket i lies in the symbol, where the whole is high - low
abbrev pub overlap_of : Hist → ℕ → Symbol → ℕ
overlap_of h i s = min (bucket_begin h (i + 1)) (s.end * length h.counters) - max (bucket_begin h i) (s.addr * length h.counters)

-- each address of the histogram lies in a symbol
abbrev pub IsCovered : List Symbol → Hist → Type 0
IsCovered symbols h = (x : ℕ) → h.low ≤ x → x < h.high → list_any (owns x) symbols ≡ true
