use Rattle.std.proofs.Common.{◌≡◌}
use Rattle.symbol_shares.specs.Ranges.{grains_of_buckets}
use Rattle.symbol_shares.proofs.ranges.grains_in_hist.Given as goal

abbrev pub invariant-loop-i : goal.invariant-loop-i
invariant-loop-i l = l.grains ≡ grains_of_buckets l.hist l.low l.high l.i
