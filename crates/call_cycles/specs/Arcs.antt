-- Where arcs lie, and in which order.
use Rattle.std.specs.Prelude.{◌<◌, ◌≢◌, ℕ, List, length, slice_index_or}
use Rattle.std.specs.List.Sorted.{IsNonDecreasingBy}
use Rattle.call_cycles.specs.declared.graphs.FunArc.{FunArc}
use Rattle.call_cycles.specs.Graph.{no_arc, IsArcBefore}

-- the arcs join functions with numbers below n
abbrev pub AreWithin : ℕ → List FunArc → Type 0
AreWithin n arcs = (i : ℕ) → i < length arcs → ((slice_index_or arcs i no_arc).caller < n) × ((slice_index_or arcs i no_arc).callee < n)

-- the arcs are in order of caller
abbrev pub AreByCaller : List FunArc → Type 0
AreByCaller arcs = IsNonDecreasingBy (λ (a : FunArc). a.caller) arcs

-- by caller, then callee, and none of them stands twice
abbrev pub AreInOrder : List FunArc → Type 0
AreInOrder arcs = (i j : ℕ) → i < j → j < length arcs → IsArcBefore (slice_index_or arcs i no_arc) (slice_index_or arcs j no_arc)

-- the arc goes from one of n functions to another one, and has calls
pub record IsArcBelow (n : ℕ) (a : FunArc) : Type 0 where
  pub caller : a.caller < n
  pub callee : a.callee < n
  pub called : 0 < a.count
  pub apart : a.caller ≢ a.callee
