use Rattle.std.proofs.Common.{◌≡◌}
use Rattle.call_cycles.specs.Sums.{sum_below, when}
use Rattle.call_cycles.specs.Flow.{is_root, time_of}
use Rattle.rvgprof.proofs.demo.roots_of.Given as goal

abbrev pub invariant-loop-c : goal.invariant-loop-c
invariant-loop-c l = l.grains ≡ sum_below l.c (λ c. when (is_root l.graph c) (time_of l.flow c))
