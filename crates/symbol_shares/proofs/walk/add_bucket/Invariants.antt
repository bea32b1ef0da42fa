use Rattle.std.proofs.Common.{◌≡◌, ◌+◌, ◌*◌, ◌≤◌, length, map, take}
use Rattle.std.specs.List.{All}
use Rattle.elf32_syms.specs.declared.image.Symbol.{Symbol}
use Rattle.gmon_data.specs.Hists.{pointwise_sum}
use Rattle.symbol_shares.specs.Shares.{bucket_begin, share_of_bucket}
use Rattle.symbol_shares.proofs.walk.add_bucket.Given as goal

abbrev pub invariant-loop-k : goal.invariant-loop-k
invariant-loop-k l = record {
  added : l.of ≡ pointwise_sum l.fn.of (take l.k (map (share_of_bucket l.hist l.i) l.symbols));
  ended : All (λ (s : Symbol). s.end * length l.hist.counters ≤ bucket_begin l.hist (l.i + 1)) (take l.k l.symbols);
}
