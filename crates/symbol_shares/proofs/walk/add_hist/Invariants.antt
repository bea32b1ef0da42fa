use Rattle.std.proofs.Common.{◌≡◌, ◌*◌, ◌-◌, ◌≤◌, length, map, take}
use Rattle.std.specs.List.{All}
use Rattle.elf32_syms.specs.declared.image.Symbol.{Symbol}
use Rattle.gmon_data.specs.Hists.{pointwise_sum}
use Rattle.symbol_shares.specs.Shares.{bucket_begin, share_of_buckets}
use Rattle.symbol_shares.proofs.walk.add_hist.Given as goal

abbrev pub invariant-loop-i : goal.invariant-loop-i
invariant-loop-i l = record {
  inside : l.i ≤ length l.hist.counters;
  from : l.from ≤ length l.symbols;
  added : l.of ≡ pointwise_sum l.fn.of (map (share_of_buckets l.hist l.i) l.symbols);
  ended : All (λ (s : Symbol). s.end * length l.hist.counters ≤ bucket_begin l.hist l.i) (take l.from l.symbols);
}

abbrev pub decreases-loop-i : goal.decreases-loop-i
decreases-loop-i l = length l.hist.counters - l.i
