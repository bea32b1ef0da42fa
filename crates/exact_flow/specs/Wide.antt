-- The first of the steps by which exact times are found that does not fit into 128 bits.
use Rattle.std.specs.Prelude.{ℕ, not, List, Option, find}
use Rattle.std.specs.Option.{option_map}
use Rattle.call_cycles.specs.Graph.{GraphValue, head_of}
use Rattle.call_cycles.specs.ExactFlow.{ExactTimes}
use Rattle.propagate.specs.Arcs.{outside_arcs_of}
use Rattle.propagate.specs.ExactSolution.{exact_in}
use Rattle.exact_flow.specs.Steps.{step_at, fits_step}

-- a step, by the head of the component that its arc leaves and the number of the arc
pub record WideStep : Type 0 where
  pub head : ℕ
  pub arc : ℕ

-- the step of an outside arc, given with the component that it leaves
abbrev pub step_of_arc : GraphValue → ℕ × ℕ → WideStep
step_of_arc g p = record { head = head_of g p.0; arc = p.1 }

-- component by component, and of each arc by arc, for a solution of the exact flow's equations
abbrev pub first_wide_of : GraphValue → List ℕ → ExactTimes → Option WideStep
first_wide_of g shares x = option_map (step_of_arc g) (find (λ (p : ℕ × ℕ). not (fits_step (step_at g shares x p.1))) (outside_arcs_of g))

-- for the solution that is found from callees to callers; every other one has the same
unfoldable pub first_wide : GraphValue → List ℕ → Option WideStep
first_wide g shares = first_wide_of g shares (exact_in g shares)
