-- The flow of time with nothing rounded, as equations in whole numbers: all exact times are counted in parts of a
-- grain, of which a grain has equally many. No order in which they are solved is in them.
use Rattle.std.specs.Prelude.{◌≡◌, ◌+◌, ◌*◌, ◌<◌, ◌≤◌, ℕ, true, List, slice_index}
use Rattle.std.specs.Int.{abs_diff}
use Rattle.call_cycles.specs.Sums.{sum_below, when}
use Rattle.call_cycles.specs.Graph.{GraphValue, arc_at, arc_count, component_count, target_of, is_outside, entering_of}
use Rattle.call_cycles.specs.Flow.{FlowValue, carried_from, carried_from_function, self_in, is_root}

pub record ExactTimes : Type 0 where
  -- how many parts a grain has
  pub grain : ℕ
  -- and in these parts: what each component gets from those that it calls
  pub child : ℕ → ℕ
  -- what each outside arc carries of the self time, and of the child time, of the component that it enters
  pub arc_self : ℕ → ℕ
  pub arc_child : ℕ → ℕ
  -- what each function gets over the outside arcs that leave it
  pub member_child : ℕ → ℕ

-- what an arc carries
abbrev pub carried_exactly : ExactTimes → ℕ → ℕ
carried_exactly x i = x.arc_self i + x.arc_child i

pub record IsExactFlow (g : GraphValue) (shares : List ℕ) (x : ExactTimes) : Type 0 where
  pub some : 0 < x.grain
  -- outside arcs carry their callees' times in proportion to their calls
  pub arc_self : (i : ℕ) → i < arc_count g → is_outside g i ≡ true → x.arc_self i * entering_of g (target_of g i) ≡ x.grain * self_in g shares (target_of g i) * (arc_at g i).count
  pub arc_child : (i : ℕ) → i < arc_count g → is_outside g i ≡ true → x.arc_child i * entering_of g (target_of g i) ≡ x.child (target_of g i) * (arc_at g i).count
  -- and bring them to their callers
  pub child : (c : ℕ) → c < component_count g → x.child c ≡ carried_from g (carried_exactly x) c
  pub member_child : (f : ℕ) → f < g.functions → x.member_child f ≡ carried_from_function g (carried_exactly x) f

-- the time of a component, its own and that of those it calls
abbrev pub exact_time : GraphValue → List ℕ → ExactTimes → ℕ → ℕ
exact_time g shares x c = x.grain * self_in g shares c + x.child c

-- the time of all roots
abbrev pub exact_time_of_roots : GraphValue → List ℕ → ExactTimes → ℕ
exact_time_of_roots g shares x = sum_below (component_count g) (λ c. when (is_root g c) (exact_time g shares x c))

-- two solutions have the same times, each in its own parts of a grain
pub record AreSameTimes (g : GraphValue) (x y : ExactTimes) : Type 0 where
  pub child : (c : ℕ) → c < component_count g → x.child c * y.grain ≡ y.child c * x.grain
  pub arc_self : (i : ℕ) → i < arc_count g → is_outside g i ≡ true → x.arc_self i * y.grain ≡ y.arc_self i * x.grain
  pub arc_child : (i : ℕ) → i < arc_count g → is_outside g i ≡ true → x.arc_child i * y.grain ≡ y.arc_child i * x.grain
  pub member_child : (f : ℕ) → f < g.functions → x.member_child f * y.grain ≡ y.member_child f * x.grain

-- the number of outside arcs
abbrev pub outside_count : GraphValue → ℕ
outside_count g = sum_below (arc_count g) (λ i. when (is_outside g i) 1)

-- a time in grains and an exact one are at most two grains apart for each outside arc of the graph
abbrev pub IsNear : GraphValue → ExactTimes → ℕ → ℕ → Type 0
IsNear g x rounded exact = abs_diff (rounded * x.grain) exact ≤ 2 * outside_count g * x.grain

-- so is each time of a flow
pub record IsNearFlow (g : GraphValue) (t : FlowValue) (x : ExactTimes) : Type 0 where
  pub child : (c : ℕ) → c < component_count g → IsNear g x (slice_index t.child c) (x.child c)
  pub arc_self : (i : ℕ) → i < arc_count g → is_outside g i ≡ true → IsNear g x (slice_index t.arc_self i) (x.arc_self i)
  pub arc_child : (i : ℕ) → i < arc_count g → is_outside g i ≡ true → IsNear g x (slice_index t.arc_child i) (x.arc_child i)
  pub member_child : (f : ℕ) → f < g.functions → IsNear g x (slice_index t.member_child f) (x.member_child f)
