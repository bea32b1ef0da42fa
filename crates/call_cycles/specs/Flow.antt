-- The flow of time from functions to their callers, as equations over a graph and the shares of its functions: they
-- speak of every arc and component, and of no order in which they are solved. Times are in grains.
use Rattle.std.specs.Prelude.{◌≡◌, ◌==◌, ◌+◌, ◌-◌, ◌*◌, ◌/◌, ◌<◌, ◌&&◌, not, ℕ, suc, Bool, true, List, length, slice_index}
use Rattle.call_cycles.specs.Sums.{sum_below, when}
use Rattle.call_cycles.specs.Graph.{GraphValue, arc_at, arc_count, component_of, component_count, source_of, target_of, is_outside, leaves, calls_into, entering_of}

-- the times of components, what outside arcs carry of them, and what functions get over the arcs that leave them
pub record FlowValue : Type 0 where
  -- the shares of each component's members
  pub self : List ℕ
  -- what each component gets from those that it calls
  pub child : List ℕ
  -- what each arc carries of the self time, and of the child time, of the component that it enters
  pub arc_self : List ℕ
  pub arc_child : List ℕ
  -- what each function gets over the outside arcs that leave it
  pub member_child : List ℕ

-- the shares of a component's members with a number below f, and of all members
abbrev pub self_below : GraphValue → List ℕ → ℕ → ℕ → ℕ
self_below g shares c f = sum_below f (λ h. when (component_of g h == c) (slice_index shares h))

abbrev pub self_in : GraphValue → List ℕ → ℕ → ℕ
self_in g shares c = self_below g shares c g.functions

-- Of the time that each component has, the part that an arc carries. The calls that enter the component share its time
-- out evenly, in the order of their arcs: an arc gets the time up to its last call less the time up to its first, each
-- rounded down.
abbrev pub part_of : GraphValue → (ℕ → ℕ) → ℕ → ℕ
part_of g time i = when (is_outside g i) (
    time (target_of g i) * calls_into g (target_of g i) (suc i) / entering_of g (target_of g i)
    - time (target_of g i) * calls_into g (target_of g i) i / entering_of g (target_of g i)
    )

-- what the outside arcs that leave a component carry
abbrev pub carried_from : GraphValue → (ℕ → ℕ) → ℕ → ℕ
carried_from g carried c = sum_below (arc_count g) (λ i. when (leaves g c i) (carried i))

-- an outside arc leaves function f
abbrev pub leaves_function : GraphValue → ℕ → ℕ → Bool
leaves_function g f i = is_outside g i && (arc_at g i).caller == f

-- what the outside arcs that leave a function carry
abbrev pub carried_from_function : GraphValue → (ℕ → ℕ) → ℕ → ℕ
carried_from_function g carried f = sum_below (arc_count g) (λ i. when (leaves_function g f i) (carried i))

-- what an arc carries
abbrev pub carried_by : FlowValue → ℕ → ℕ
carried_by t i = slice_index t.arc_self i + slice_index t.arc_child i

pub record IsFlow (g : GraphValue) (shares : List ℕ) (t : FlowValue) : Type 0 where
  pub selves : length t.self ≡ component_count g
  pub children : length t.child ≡ component_count g
  pub arc_selves : length t.arc_self ≡ arc_count g
  pub arc_children : length t.arc_child ≡ arc_count g
  pub member_children : length t.member_child ≡ g.functions
  -- a component's self time is the shares of its members
  pub self : (c : ℕ) → c < component_count g → slice_index t.self c ≡ self_in g shares c
  -- arcs carry their callees' times in proportion to their calls
  pub arc_self : (i : ℕ) → i < arc_count g → slice_index t.arc_self i ≡ part_of g (slice_index t.self) i
  pub arc_child : (i : ℕ) → i < arc_count g → slice_index t.arc_child i ≡ part_of g (slice_index t.child) i
  -- and bring them to their callers
  pub child : (c : ℕ) → c < component_count g → slice_index t.child c ≡ carried_from g (carried_by t) c
  pub member_child : (f : ℕ) → f < g.functions → slice_index t.member_child f ≡ carried_from_function g (carried_by t) f

-- the time of a component: its own, and that of those it calls
abbrev pub time_of : FlowValue → ℕ → ℕ
time_of t c = slice_index t.self c + slice_index t.child c

-- no outside arc enters a root
abbrev pub is_root : GraphValue → ℕ → Bool
is_root g c = entering_of g c == 0

-- the time of all roots
abbrev pub time_of_roots : GraphValue → FlowValue → ℕ
time_of_roots g t = sum_below (component_count g) (λ c. when (is_root g c) (time_of t c))

-- the set has with each component all that it calls
abbrev pub IsClosed : GraphValue → (ℕ → Bool) → Type 0
IsClosed g set = (i : ℕ) → i < arc_count g → set (source_of g i) ≡ true → set (target_of g i) ≡ true

-- the time of the set's roots, and what comes into the set over arcs from outside it, are the shares of the set
abbrev pub IsConserved : GraphValue → FlowValue → (ℕ → Bool) → Type 0
IsConserved g t set =
    sum_below (component_count g) (λ c. when (set c && is_root g c) (time_of t c))
    + sum_below (arc_count g) (λ i. when (not (set (source_of g i)) && set (target_of g i)) (carried_by t i))
    ≡ sum_below (component_count g) (λ c. when (set c) (slice_index t.self c))
