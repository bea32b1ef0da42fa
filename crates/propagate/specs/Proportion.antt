-- The arcs that enter a component carry its time in proportion to their calls, and together all of it.
use Rattle.std.specs.Prelude.{◌≡◌, ◌≢◌, ◌+◌, ◌*◌, ◌<◌, ℕ, true, List, slice_index}
use Rattle.call_cycles.specs.Sums.{sum_below, when}
use Rattle.call_cycles.specs.Graph.{GraphValue, IsGraph, arc_at, arc_count, component_count, enters, entering_of, is_outside, target_of}
use Rattle.call_cycles.specs.Flow.{FlowValue, IsFlow}

-- of a time, the part that so many of all calls get: it is less than a grain away from time * calls / all
abbrev pub IsInProportion : ℕ → ℕ → ℕ → ℕ → Type 0
IsInProportion part time calls all = (part * all < time * calls + all) × (time * calls < (part + 1) * all)

abbrev pub PartsAreInProportion : Type 0
PartsAreInProportion = (g : GraphValue) (shares : List ℕ) (t : FlowValue) (i : ℕ) → IsGraph g → IsFlow g shares t → i < arc_count g → is_outside g i ≡ true
    → IsInProportion (slice_index t.arc_self i) (slice_index t.self (target_of g i)) (arc_at g i).count (entering_of g (target_of g i))
    × IsInProportion (slice_index t.arc_child i) (slice_index t.child (target_of g i)) (arc_at g i).count (entering_of g (target_of g i))

-- what the outside arcs that enter a component carry
abbrev pub carried_to : GraphValue → (ℕ → ℕ) → ℕ → ℕ
carried_to g carried d = sum_below (arc_count g) (λ i. when (enters g d i) (carried i))

abbrev pub PartsAreAll : Type 0
PartsAreAll = (g : GraphValue) (shares : List ℕ) (t : FlowValue) (d : ℕ) → IsGraph g → IsFlow g shares t → d < component_count g → entering_of g d ≢ 0
    → (carried_to g (slice_index t.arc_self) d ≡ slice_index t.self d) × (carried_to g (slice_index t.arc_child) d ≡ slice_index t.child d)
