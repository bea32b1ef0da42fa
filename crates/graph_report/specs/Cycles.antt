-- The cycles of a graph as a report names them, and the calls inside them.
use Rattle.std.specs.Prelude.{ℕ, ◌+◌, ◌==◌, ◌&&◌, not, nat_lt, Bool, List, ◌++◌, codes}
use Rattle.std.specs.List.{count_by}
use Rattle.text_cols.specs.Columns.{decimal}
use Rattle.call_cycles.specs.Graph.{GraphValue, arc_at, arc_count, component_of, component_count, head_of, is_cycle, is_outside, target_of}
use Rattle.call_cycles.specs.Sums.{sum_below, when, numbers_below}

-- the function is a member of a cycle
abbrev pub is_member : GraphValue → ℕ → Bool
is_member g f = is_cycle g (component_of g f)

-- component d is a cycle whose head stands before function h
abbrev pub is_cycle_before : GraphValue → ℕ → ℕ → Bool
is_cycle_before g h d = is_cycle g d && nat_lt (head_of g d) h

-- cycles are numbered from 1 by the addresses of their heads
unfoldable pub cycle_number : GraphValue → ℕ → ℕ
cycle_number g c = count_by (is_cycle_before g (head_of g c)) (numbers_below (component_count g)) + 1

-- the arc of number i goes between two members of component c
abbrev pub is_inner_arc : GraphValue → ℕ → ℕ → Bool
is_inner_arc g c i = not (is_outside g i) && target_of g i == c

-- the calls between different members of a component
unfoldable pub inner_calls : GraphValue → ℕ → ℕ
inner_calls g c = sum_below (arc_count g) (λ i. when (is_inner_arc g c i) (arc_at g i).count)

-- how a cycle is named where it has a line as a whole
unfoldable pub cycle_name : GraphValue → ℕ → List ℕ
cycle_name g c = codes "<cycle " ++ decimal (cycle_number g c) ++ codes " as a whole>"
