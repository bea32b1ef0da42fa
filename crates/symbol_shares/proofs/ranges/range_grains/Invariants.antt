use Rattle.std.proofs.Common.{◌≡◌, take}
use Rattle.symbol_shares.specs.Ranges.{grains_of_range}
use Rattle.symbol_shares.proofs.ranges.range_grains.Given as goal

abbrev pub invariant-loop-k : goal.invariant-loop-k
invariant-loop-k l = l.grains ≡ grains_of_range (take l.k l.profile.hists) l.low l.high
