-- The roots have all shares, and no component or function has more.
use Rattle.std.proofs.Common.{◌≡◌, ◌<◌, ◌≤◌, ℕ, ◌+◌, Bool, true, false, not, ◌&&◌, List, length, sum, refl, ap, ⊎_elim, arith, leb}
use Rattle.std.specs.Prelude.{◌==◌, slice_index}
use Rattle.std.proofs.lemmas.Bool.{eq-eqb, cases_Bool}
use Rattle.call_cycles.specs.Sums.{sum_below, when}
use Rattle.call_cycles.specs.Graph.{GraphValue, IsGraph, arc_count, component_count, component_of, enters, leaves, source_of, target_of}
use Rattle.call_cycles.specs.Flow.{FlowValue, IsFlow, IsClosed, is_root, carried_by, carried_from, carried_from_function, leaves_function, time_of, time_of_roots, self_in}
use Rattle.propagate.specs.Solution.{child_in, flow_in}
use Rattle.call_cycles.proofs.SumLemmas.{sum_ext, sum_zero, sum_mono, when_le}
use Rattle.call_cycles.proofs.NumberingLemmas.{goes_down}
use Rattle.propagate.proofs.SumLemmas.{sum_by_key, term_le_sum, sum_of_places}
use Rattle.propagate.proofs.ConservationLemmas.{conserved, all_into}
use Rattle.propagate.proofs.SolutionLemmas.{at_list_of, solution}

pub when_fewer : (a b : Bool) (x : ℕ) → (a ≡ true → b ≡ true) → when a x ≤ when b x
when_fewer true b x within = let same : when b x ≡ x = ap (λ (c : Bool). when c x) (within refl) in omega arith
when_fewer false b x within = omega arith

module _ (g : GraphValue) (shares : List ℕ) (is : IsGraph g) (each : length shares ≡ g.functions) where
  -- the shares of a set's components are those of its members
  pub shares_in : (set : ℕ → Bool) → sum_below (component_count g) (λ c. when (set c) (self_in g shares c)) ≡ sum_below g.functions (λ f. when (set (component_of g f)) (slice_index shares f))
  shares_in set = sum_by_key g.functions (component_count g) set (λ f. true) (component_of g) (slice_index shares) is.components.within

  shares_within : (set : ℕ → Bool) → sum_below (component_count g) (λ c. when (set c) (self_in g shares c)) ≤ sum shares
  shares_within set =
      let those = shares_in set in
      let fewer = sum_mono g.functions (λ f. when (set (component_of g f)) (slice_index shares f)) (slice_index shares) (λ f h. when_le (set (component_of g f)) (slice_index shares f)) in
      let all = sum_of_places g.functions shares each in
      omega arith

  module _ (t : FlowValue) (flow : IsFlow g shares t) where
    pub roots_have_all : time_of_roots g t ≡ sum shares
    roots_have_all =
        let whole = conserved g shares t is flow (λ c. true) (λ i h k. refl) in
        let none = sum_zero (arc_count g) in
        let those = shares_in (λ c. true) in
        let selves = sum_ext (component_count g) (λ c. slice_index t.self c) (self_in g shares) (λ c h. flow.self c h) in
        let all = sum_of_places g.functions shares each in
        omega arith

    module _ (c : ℕ) (below : c < component_count g) where
      -- the components up to c call none after c
      closed : IsClosed g (λ d. leb d c)
      closed i h inside = grind (arith, goes_down)

      -- a root is one of the roots up to c; what enters another comes from after c
      as_root : is_root g c ≡ true → time_of t c ≤ sum_below (component_count g) (λ d. when (leb d c && is_root g d) (time_of t d))
      as_root root = grind (arith, term_le_sum (component_count g) (λ d. when (leb d c && is_root g d) (time_of t d)) c below)

      enters_from_outside : (i : ℕ) → i < arc_count g → when (enters g c i) (carried_by t i) ≤ when (not (leb (source_of g i) c) && leb (target_of g i) c) (carried_by t i)
      enters_from_outside i h = grind (arith, goes_down)

      as_callee : is_root g c ≡ false → time_of t c ≤ sum_below (arc_count g) (λ i. when (not (leb (source_of g i) c) && leb (target_of g i) c) (carried_by t i))
      as_callee called =
          let all = all_into g shares t is flow (λ d. leb d c) closed c in
          let more = sum_mono (arc_count g) (λ i. when (enters g c i) (carried_by t i)) (λ i. when (not (leb (source_of g i) c) && leb (target_of g i) c) (carried_by t i)) enters_from_outside in
          let this : when (not (is_root g c)) (time_of t c) ≡ time_of t c = ap (λ (b : Bool). when (not b) (time_of t c)) called in
          omega arith

      pub within_all : time_of t c ≤ sum shares
      within_all =
          let all = conserved g shares t is flow (λ d. leb d c) closed in
          let selves = sum_ext (component_count g) (λ d. when (leb d c) (slice_index t.self d)) (λ d. when (leb d c) (self_in g shares d)) (λ d h. ap (when (leb d c)) (flow.self d h)) in
          let within = shares_within (λ d. leb d c) in
          ⊎_elim
          (λ (root : is_root g c ≡ true). let r = as_root root in omega arith)
          (λ (called : is_root g c ≡ false). let r = as_callee called in omega arith)
          (cases_Bool (is_root g c))

  -- so it is with the solution
  pub bounded : (c : ℕ) → c < component_count g → self_in g shares c + child_in g shares c ≤ sum shares
  unfolding flow_in
  bounded c below =
      let all = within_all (flow_in g shares) (solution g shares is) c below in
      omega (arith, at_list_of (component_count g) (self_in g shares) c below, at_list_of (component_count g) (child_in g shares) c below)

-- ---- functions

-- a function's arcs leave its component
pub function_leaves : (g : GraphValue) (f i : ℕ) → leaves_function g f i ≡ true → leaves g (component_of g f) i ≡ true
function_leaves g f i it = grind arith

pub function_carried_le : (g : GraphValue) (carried : ℕ → ℕ) (f : ℕ) → carried_from_function g carried f ≤ carried_from g carried (component_of g f)
function_carried_le g carried f = sum_mono (arc_count g) _ _ (λ i h. when_fewer _ _ (carried i) (function_leaves g f i))

pub function_within : (g : GraphValue) (shares : List ℕ) (t : FlowValue) (f : ℕ) → IsGraph g → IsFlow g shares t → f < g.functions
    → slice_index shares f + slice_index t.member_child f ≤ time_of t (component_of g f)
function_within g shares t f is flow below =
    let c = component_of g f in
    let fewer = function_carried_le g (carried_by t) f in
    let one = term_le_sum g.functions (λ h. when (component_of g h == c) (slice_index shares h)) f below in
    let this : when (component_of g f == c) (slice_index shares f) ≡ slice_index shares f = rw (eq-eqb c c refl) refl in
    omega arith
