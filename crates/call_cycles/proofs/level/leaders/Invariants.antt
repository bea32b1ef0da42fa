use Rattle.std.proofs.Common.{◌≡◌, slice_index}
use Rattle.call_cycles.specs.Sums.{list_of}
use Rattle.call_cycles.proofs.level.leaders.Given as goal

abbrev pub invariant-loop-r : goal.invariant-loop-r
invariant-loop-r l = l.leaders.items ≡ list_of l.r-index (λ h. slice_index l.least.items (slice_index l.ranks h))
