-- What holds while exact times are found: the tables, and what steps read in them.
-- Only private functions and invariants speak of it.
use Rattle.std.specs.Prelude.{◌≡◌, ℕ, List, map, replicate, slice_index}
use Rattle.call_cycles.specs.Sums.{list_of, numbers_below, when}
use Rattle.call_cycles.specs.Graph.{GraphValue, arc_at, arc_count, component_count, source_of, target_of, is_outside, entering_of}
use Rattle.call_cycles.specs.Flow.{self_in}
use Rattle.call_cycles.specs.ExactFlow.{ExactTimes}
use Rattle.fraction128.specs.Fractions.{Fraction, fraction, lowest}
use Rattle.fraction128.specs.Values.{value_of}
use Rattle.exact_flow.specs.Times.{in_grains, outside_numbers, time_at}
use Rattle.exact_flow.specs.Steps.{StepNumbers}
use Rattle.exact_flow.specs.declared.tables.Tables.{Tables}

-- the calls of an arc, but none of an arc inside a component
abbrev pub outside_calls : GraphValue → ℕ → ℕ
outside_calls g i = when (is_outside g i) (arc_at g i).count

-- what the tables say of a graph: self times and calls that enter, by components; calls and callees, by arcs; and the outside arcs
pub record AreTables (g : GraphValue) (shares own entries counts targets numbers : List ℕ) : Type 0 where
  pub selves : own ≡ list_of (component_count g) (self_in g shares)
  pub entering : entries ≡ list_of (component_count g) (entering_of g)
  pub calls : counts ≡ list_of (arc_count g) (outside_calls g)
  pub callees : targets ≡ list_of (arc_count g) (target_of g)
  pub outside : numbers ≡ outside_numbers g

-- no step is done
abbrev pub no_times : GraphValue → List Fraction
no_times g = replicate (component_count g) (fraction 0 1)

pub record IsStart (g : GraphValue) (shares : List ℕ) (t : Tables) : Type 0 where
  pub tables : AreTables g shares t.selves.items t.entering.items t.calls.items t.callees.items t.outside.items
  pub children : map value_of t.children.items ≡ no_times g

-- all are done: what each component gets from those that it calls
abbrev pub child_times : GraphValue → ExactTimes → List Fraction
child_times g x = map (λ c. in_grains x (x.child c)) (numbers_below (component_count g))

-- the step of arc i with these times of components
abbrev pub step_in : GraphValue → List ℕ → List Fraction → ℕ → StepNumbers
step_in g selves children i = record {
  self = slice_index selves (target_of g i);
  child = time_at children (target_of g i);
  calls = lowest (arc_at g i).count (entering_of g (target_of g i));
  before = time_at children (source_of g i);
}
