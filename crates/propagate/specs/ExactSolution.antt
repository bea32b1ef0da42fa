-- A solution of the equations of exact times, found from callees to callers.
use Rattle.std.specs.Prelude.{ℕ, zero, suc, ◌+◌, ◌*◌, max, List}
use Rattle.call_cycles.specs.Sums.{when}
use Rattle.call_cycles.specs.Graph.{GraphValue, arc_at, component_count, enters, entering_of}
use Rattle.call_cycles.specs.Flow.{carried_from, carried_from_function, self_in}
use Rattle.call_cycles.specs.ExactFlow.{ExactTimes}

-- what components and functions get, where arcs carry these parts of self times and of child times
abbrev pub times_by : GraphValue → ℕ → (ℕ → ℕ) → (ℕ → ℕ) → ExactTimes
times_by g grain arc_self arc_child = record {
  grain = grain;
  child = carried_from g (λ i. arc_self i + arc_child i);
  arc_self = arc_self;
  arc_child = arc_child;
  member_child = carried_from_function g (λ i. arc_self i + arc_child i);
}

-- component n hands its time on to the arcs that enter it: all numbers so far are multiplied by their calls, if any
abbrev pub handed_on : GraphValue → List ℕ → ℕ → ExactTimes → ExactTimes
handed_on g shares n x =
    let calls = max 1 (entering_of g n) in
    times_by g (x.grain * calls)
    (λ i. x.arc_self i * calls + when (enters g n i) (x.grain * self_in g shares n * (arc_at g i).count))
    (λ i. x.arc_child i * calls + when (enters g n i) (x.child n * (arc_at g i).count))

-- the times when the components below n have handed theirs on
abbrev pub exact_after : GraphValue → List ℕ → ℕ → ExactTimes
exact_after g shares zero = times_by g 1 (λ i. 0) (λ i. 0)
exact_after g shares (suc n) = handed_on g shares n (exact_after g shares n)

unfoldable pub exact_in : GraphValue → List ℕ → ExactTimes
exact_in g shares = exact_after g shares (component_count g)
