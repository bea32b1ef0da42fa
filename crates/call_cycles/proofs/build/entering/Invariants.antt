use Rattle.std.proofs.Common.{◌≡◌, ◌<◌, ℕ, length, slice_index}
use Rattle.call_cycles.specs.Graph.{calls_into}
use Rattle.call_cycles.specs.Parts.{headless_graph}
use Rattle.call_cycles.proofs.build.entering.Given as goal

abbrev pub invariant-loop-a : goal.invariant-loop-a
invariant-loop-a l = record {
  len : length l.calls.items ≡ l.count;
  each : (d : ℕ) → d < l.count → slice_index l.calls.items d ≡ calls_into (headless_graph l.component l.arcs) d l.a-index;
}
