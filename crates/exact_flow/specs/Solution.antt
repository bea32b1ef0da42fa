-- The exact times of a graph of functions with these shares, each in lowest terms.
use Rattle.std.specs.Prelude.{ℕ, List, map, if◌then◌else◌}
use Rattle.call_cycles.specs.Sums.{list_of, numbers_below}
use Rattle.call_cycles.specs.Graph.{GraphValue, arc_count, component_count, is_outside}
use Rattle.call_cycles.specs.Flow.{self_in}
use Rattle.call_cycles.specs.ExactFlow.{ExactTimes}
use Rattle.fraction128.specs.Fractions.{Fraction, fraction}
use Rattle.propagate.specs.ExactSolution.{exact_in}
use Rattle.exact_flow.specs.Times.{ExactFlowValue, in_grains, outside_numbers}

-- a time for each arc: arcs inside cycles carry none
abbrev pub by_arcs : GraphValue → (ℕ → Fraction) → List Fraction
by_arcs g time = map (λ i. if is_outside g i then time i else fraction 0 1) (numbers_below (arc_count g))

-- the times of a solution of the equations
abbrev pub flow_of_times : GraphValue → List ℕ → ExactTimes → ExactFlowValue
flow_of_times g shares x = record {
  self = list_of (component_count g) (self_in g shares);
  child = map (λ c. in_grains x (x.child c)) (numbers_below (component_count g));
  arc_self = by_arcs g (λ i. in_grains x (x.arc_self i));
  arc_child = by_arcs g (λ i. in_grains x (x.arc_child i));
  outside = outside_numbers g;
}

-- those of the solution that is found from callees to callers; every other one has the same
unfoldable pub exact_flow_in : GraphValue → List ℕ → ExactFlowValue
exact_flow_in g shares = flow_of_times g shares (exact_in g shares)
