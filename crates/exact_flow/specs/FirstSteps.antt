-- What every solution of the exact flow's equations says of the steps, and of the first one that does not fit.
use Rattle.std.specs.Prelude.{◌≡◌, ◌<◌, ℕ, true, List, Some, None}
use Rattle.call_cycles.specs.Graph.{GraphValue, IsGraph, arc_count, is_outside}
use Rattle.call_cycles.specs.ExactFlow.{ExactTimes, IsExactFlow}
use Rattle.exact_flow.specs.Steps.{step_at, IsNoneWide, IsFirstWide}
use Rattle.exact_flow.specs.Solution.{flow_of_times, exact_flow_in}
use Rattle.exact_flow.specs.Wide.{WideStep, first_wide, first_wide_of}

-- two solutions have the same fractions in each step
abbrev pub HaveSameSteps : Type 0
HaveSameSteps = (g : GraphValue) (shares : List ℕ) (x y : ExactTimes) → IsGraph g → IsExactFlow g shares x → IsExactFlow g shares y
    → (i : ℕ) → i < arc_count g → is_outside g i ≡ true → step_at g shares x i ≡ step_at g shares y i

-- so the first wide step is one and the same for every solution
abbrev pub HasOneFirst : Type 0
HasOneFirst = (g : GraphValue) (shares : List ℕ) (x : ExactTimes) → IsGraph g → IsExactFlow g shares x → first_wide_of g shares x ≡ first_wide g shares

-- and so are the times in lowest terms
abbrev pub HasOneFlow : Type 0
HasOneFlow = (g : GraphValue) (shares : List ℕ) (x : ExactTimes) → IsGraph g → IsExactFlow g shares x → flow_of_times g shares x ≡ exact_flow_in g shares

-- where there is none, each step of each solution fits
abbrev pub NoneIsWide : Type 0
NoneIsWide = (g : GraphValue) (shares : List ℕ) (x : ExactTimes) → IsGraph g → IsExactFlow g shares x → first_wide g shares ≡ None → IsNoneWide g shares x

-- where there is one, it does not fit, and each step before it does
abbrev pub FirstIsWide : Type 0
FirstIsWide = (g : GraphValue) (shares : List ℕ) (x : ExactTimes) (w : WideStep) → IsGraph g → IsExactFlow g shares x → first_wide g shares ≡ Some w
    → IsFirstWide g shares x w.head w.arc
