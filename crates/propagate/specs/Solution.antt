-- The solution of the flow's equations, found from callees to callers.
use Rattle.std.specs.Prelude.{ℕ, zero, suc, ◌+◌, List}
use Rattle.call_cycles.specs.Sums.{list_of}
use Rattle.call_cycles.specs.Graph.{GraphValue, arc_count, component_count}
use Rattle.call_cycles.specs.Flow.{FlowValue, part_of, carried_from, carried_from_function, self_in}

-- what an arc carries, where components have these child times
abbrev pub carried_in : GraphValue → List ℕ → (ℕ → ℕ) → ℕ → ℕ
carried_in g shares child i = part_of g (self_in g shares) i + part_of g child i

-- the child times, where at most n components call one another in a row
abbrev pub child_after : GraphValue → List ℕ → ℕ → ℕ → ℕ
child_after g shares zero c = 0
child_after g shares (suc n) c = carried_from g (carried_in g shares (child_after g shares n)) c

unfoldable pub child_in : GraphValue → List ℕ → ℕ → ℕ
child_in g shares c = child_after g shares (component_count g) c

unfoldable pub flow_in : GraphValue → List ℕ → FlowValue
flow_in g shares = record {
  self = list_of (component_count g) (self_in g shares);
  child = list_of (component_count g) (child_in g shares);
  arc_self = list_of (arc_count g) (part_of g (self_in g shares));
  arc_child = list_of (arc_count g) (part_of g (child_in g shares));
  member_child = list_of g.functions (carried_from_function g (carried_in g shares (child_in g shares)));
}
