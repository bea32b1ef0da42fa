-- What a graph is built from.
use Rattle.std.specs.Prelude.{◌<◌, ◌≢◌, ℕ, List, [], length, slice_index_or}
use Rattle.call_cycles.specs.declared.graphs.FunArc.{FunArc}
use Rattle.call_cycles.specs.Sums.{sum_below}
use Rattle.call_cycles.specs.Graph.{GraphValue, no_arc}

-- a graph of n functions
abbrev pub graph_of_parts : ℕ → List FunArc → List ℕ → List ℕ → List ℕ → GraphValue
graph_of_parts n arcs self_calls component heads = record { functions = n; arcs = arcs; self_calls = self_calls; component = component; heads = heads }

-- a graph with components and arcs alone
abbrev pub headless_graph : List ℕ → List FunArc → GraphValue
headless_graph component arcs = record { functions = 0; arcs = arcs; self_calls = []; component = component; heads = [] }

-- each arc has calls, and goes to another function
abbrev pub AreCalled : List FunArc → Type 0
AreCalled arcs = (i : ℕ) → i < length arcs → (0 < (slice_index_or arcs i no_arc).count) × ((slice_index_or arcs i no_arc).caller ≢ (slice_index_or arcs i no_arc).callee)

-- the calls of all arcs
unfoldable pub arcs_calls : List FunArc → ℕ
arcs_calls arcs = sum_below (length arcs) (λ i. (slice_index_or arcs i no_arc).count)
