use Rattle.std.proofs.Common.{◌≡◌, ℕ, ◌≤◌, Some, length, map, take, slice_get}
use Rattle.std.specs.List.{All}
use Rattle.gmon_data.specs.declared.hist.Hist.{Hist}
use Rattle.elf32_syms.specs.declared.image.Symbol.{Symbol}
use Rattle.symbol_shares.specs.Shares.{share_of}
use Rattle.symbol_shares.proofs.walk.shares_of_symbols.Given as goal

abbrev pub invariant-loop-k : goal.invariant-loop-k
invariant-loop-k l = record {
  inside : l.from ≤ length l.symbols;
  added : l.of.items ≡ map (share_of (take l.k l.profile.hists)) l.symbols;
  ended : (j : ℕ) (h : Hist) → l.k ≤ j → slice_get l.profile.hists j ≡ Some h → All (λ (s : Symbol). s.end ≤ h.low) (take l.from l.symbols);
}
