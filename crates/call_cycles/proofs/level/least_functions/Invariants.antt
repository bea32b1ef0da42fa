use Rattle.std.proofs.Common.{◌≡◌, ◌<◌, ◌≤◌, ◌+◌, ℕ, length, slice_index}
use Rattle.call_cycles.specs.Leaders.{IsLeast}
use Rattle.call_cycles.proofs.level.least_functions.Given as goal

abbrev pub invariant-loop-f : goal.invariant-loop-f
invariant-loop-f l = record {
  len : length l.least.items ≡ l.functions + 1;
  each : (h : ℕ) → l.f ≤ h → h < l.functions → IsLeast l.functions l.ranks l.f h (slice_index l.least.items (slice_index l.ranks h));
}
