use Rattle.std.proofs.Common.{◌≡◌, ◌<◌, ℕ, get_or}
use Rattle.call_cycles.specs.Graph.{source_of}
use Rattle.graph_report.proofs.exact_report.leaving.Given as goal

-- those so far leave the component
abbrev pub invariant-loop-n : goal.invariant-loop-n
invariant-loop-n l = (k d : ℕ) → k < l.n → source_of l.graph (get_or l.arcs k d) ≡ l.c
