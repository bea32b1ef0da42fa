-- Exact times as fractions in lowest terms.
use Rattle.std.specs.Prelude.{◌≡◌, ℕ, List, length, map, slice_index_or}
use Rattle.call_cycles.specs.Graph.{GraphValue, arc_count, component_count}
use Rattle.call_cycles.specs.ExactFlow.{ExactTimes}
use Rattle.fraction128.specs.Fractions.{Fraction, fraction, lowest}
use Rattle.propagate.specs.Arcs.{outside_arcs_of}

-- the times of components, and what arcs carry of them
pub record ExactFlowValue : Type 0 where
  pub self : List ℕ
  pub child : List Fraction
  pub arc_self : List Fraction
  pub arc_child : List Fraction
  -- the numbers of the outside arcs
  pub outside : List ℕ

abbrev pub time_at : List Fraction → ℕ → Fraction
time_at times i = slice_index_or times i (fraction 0 1)

-- a number of parts of a grain, in grains
abbrev pub in_grains : ExactTimes → ℕ → Fraction
in_grains x parts = lowest parts x.grain

-- the numbers of the outside arcs: those that leave lower components first, and of one component lower numbers
abbrev pub outside_numbers : GraphValue → List ℕ
outside_numbers g = map (λ (p : ℕ × ℕ). p.1) (outside_arcs_of g)

-- a time for each component and each arc of a graph, and its outside arcs in order
pub record HasTimes (g : GraphValue) (e : ExactFlowValue) : Type 0 where
  pub selves : length e.self ≡ component_count g
  pub children : length e.child ≡ component_count g
  pub arc_selves : length e.arc_self ≡ arc_count g
  pub arc_children : length e.arc_child ≡ arc_count g
  pub outside : e.outside ≡ outside_numbers g
