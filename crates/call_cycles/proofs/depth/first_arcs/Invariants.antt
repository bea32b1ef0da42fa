use Rattle.std.proofs.Common.{◌≡◌, ◌<◌, ◌≤◌, ℕ, length, slice_index}
use Rattle.std.proofs.Common.{◌⊎◌}
use Rattle.call_cycles.specs.Passes.{caller_at}
use Rattle.call_cycles.proofs.depth.first_arcs.Given as goal

abbrev pub invariant-loop-i : goal.invariant-loop-i
invariant-loop-i l = record {
  len : length l.first.items ≡ l.functions;
  within : (w : ℕ) → w < l.functions → slice_index l.first.items w ≤ length l.arcs;
  begins : (j : ℕ) → l.i ≤ j → j < length l.arcs → slice_index l.first.items (caller_at l.arcs j) ≤ j;
  own : (w : ℕ) → w < l.functions → (slice_index l.first.items w ≡ length l.arcs) ⊎ (caller_at l.arcs (slice_index l.first.items w) ≡ w);
}
