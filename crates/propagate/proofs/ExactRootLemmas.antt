-- The roots have all shares, also in exact times.
use Rattle.std.proofs.Common.{◌≡◌, ◌<◌, ◌≤◌, ℕ, ◌+◌, ◌*◌, Bool, true, false, not, List, length, sum, refl, ap, sym, ◌∙◌, ⊎_elim, arith}
use Rattle.std.proofs.Math.Nat.{eq_of_mul-eq-mul_right, mul_comm}
use Rattle.std.proofs.lemmas.Bool.{eq-eqb, ne_eqb, cases_lt}
use Rattle.call_cycles.specs.Sums.{sum_below, when}
use Rattle.call_cycles.specs.Graph.{GraphValue, IsGraph, arc_at, arc_count, component_count, is_outside, enters, leaves, source_of, target_of, entering_of}
use Rattle.call_cycles.specs.Flow.{is_root, self_in}
use Rattle.call_cycles.specs.ExactFlow.{ExactTimes, IsExactFlow, carried_exactly, exact_time, exact_time_of_roots}
use Rattle.call_cycles.proofs.SumLemmas.{sum_ext, sum_add, sum_none}
use Rattle.call_cycles.proofs.NumberingLemmas.{source_within, target_within}
use Rattle.propagate.proofs.SumLemmas.{sum_by_key, sum_of_places}
use Rattle.propagate.proofs.UniqueLemmas.{when_ext}
use Rattle.propagate.proofs.BoundLemmas.{shares_in}
use Rattle.propagate.proofs.ExactLemmas.{chosen_times, not_entered, calls_entering}

split_root : (r : Bool) (x : ℕ) → x ≡ when r x + when (not r) x
split_root true x = omega arith
split_root false x = omega arith

module _ (g : GraphValue) (shares : List ℕ) (is : IsGraph g) (x : ExactTimes) (exact : IsExactFlow g shares x) where
  -- what goes into a component is all of its time, but for a root
  all_in : (d : ℕ) → sum_below (arc_count g) (λ i. when (enters g d i) (carried_exactly x i)) ≡ when (not (is_root g d)) (exact_time g shares x d)
  all_in d =
      ⊎_elim
      (λ (some : 0 < entering_of g d).
      let whole : when (not (is_root g d)) (exact_time g shares x d) ≡ exact_time g shares x d = rw (ne_eqb (entering_of g d) 0 (λ none. omega arith)) refl in
      eq_of_mul-eq-mul_right (entering_of g d) some _ _ (shared some) ∙ sym whole)
      (λ (none : entering_of g d ≤ 0).
      let nothing : when (not (is_root g d)) (exact_time g shares x d) ≡ 0 = rw (eq-eqb (entering_of g d) 0 (omega arith)) refl in
      sum_none (arc_count g) (λ i. when (enters g d i) (carried_exactly x i)) (λ i below. ap (λ (b : Bool). when b (carried_exactly x i)) (not_entered g is d none i below)) ∙ sym nothing)
      (cases_lt 0 (entering_of g d))
    where
      each : (i : ℕ) → i < arc_count g → enters g d i ≡ true → carried_exactly x i * entering_of g d ≡ (arc_at g i).count * exact_time g shares x d
      each i below taken = grind arith

      shared : 0 < entering_of g d → sum_below (arc_count g) (λ i. when (enters g d i) (carried_exactly x i)) * entering_of g d ≡ exact_time g shares x d * entering_of g d
      shared some =
          chosen_times (arc_count g) (enters g d) (carried_exactly x) (entering_of g d)
          ∙ sum_ext (arc_count g) _ _ (λ i below. when_ext (enters g d i) _ _ (each i below))
          ∙ sym (chosen_times (arc_count g) (enters g d) (λ i. (arc_at g i).count) (exact_time g shares x d))
          ∙ ap (λ (z : ℕ). z * exact_time g shares x d) (calls_entering g d)
          ∙ mul_comm (entering_of g d) (exact_time g shares x d)

  pub exact_roots : length shares ≡ g.functions → exact_time_of_roots g shares x ≡ x.grain * sum shares
  exact_roots each =
      let into = sum_by_key m n (λ c. true) (is_outside g) (target_of g) (carried_exactly x) (target_within g is) in
      let from = sum_by_key m n (λ c. true) (is_outside g) (source_of g) (carried_exactly x) (source_within g is) in
      let ins = sum_ext n (λ c. sum_below m (λ i. when (enters g c i) (carried_exactly x i))) (λ c. when (not (is_root g c)) (exact_time g shares x c)) (λ c below. all_in c) in
      let outs = sum_ext n x.child (λ c. sum_below m (λ i. when (leaves g c i) (carried_exactly x i))) exact.child in
      let split = sum_ext n (exact_time g shares x) (λ c. when (is_root g c) (exact_time g shares x c) + when (not (is_root g c)) (exact_time g shares x c)) (λ c below. split_root (is_root g c) (exact_time g shares x c)) in
      let split_two = sum_add n (λ c. when (is_root g c) (exact_time g shares x c)) (λ c. when (not (is_root g c)) (exact_time g shares x c)) in
      let parts = sum_add n (λ c. x.grain * self_in g shares c) x.child in
      let grains = sum_ext n (λ c. x.grain * self_in g shares c) (λ c. when true (self_in g shares c * x.grain)) (λ c below. mul_comm x.grain (self_in g shares c)) in
      let scaled = chosen_times n (λ c. true) (self_in g shares) x.grain in
      let those = ap (λ (z : ℕ). z * x.grain) (shares_in g shares is each (λ c. true)) in
      let all = ap (λ (z : ℕ). z * x.grain) (sum_of_places g.functions shares each) in
      omega arith
    where
      m : ℕ
      m = arc_count g

      n : ℕ
      n = component_count g
