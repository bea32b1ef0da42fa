-- No time is lost: what the roots of a set have, and what comes in from outside, are the set's shares.
use Rattle.std.proofs.Common.{◌≡◌, ◌≢◌, ◌≢◌, ◌<◌, ℕ, ◌+◌, Bool, true, false, not, ◌&&◌, List, refl, ap, sym, ◌∙◌, arith}
use Rattle.std.specs.Prelude.{slice_index}
use Rattle.std.proofs.lemmas.Bool.{eqb-true, not-false, true≢false, eqb-false, not-true}
use Rattle.call_cycles.specs.Sums.{sum_below, when}
use Rattle.call_cycles.specs.Graph.{GraphValue, IsGraph, arc_count, component_count, is_outside, enters, source_of, target_of}
use Rattle.call_cycles.specs.Flow.{FlowValue, IsFlow, IsClosed, IsConserved, is_root, part_of, carried_from, carried_by, time_of}
use Rattle.call_cycles.proofs.SumLemmas.{sum_ext, sum_add}
use Rattle.call_cycles.proofs.NumberingLemmas.{source_within, target_within}
use Rattle.propagate.proofs.SumLemmas.{sum_by_key, when_add}
use Rattle.propagate.proofs.CarryLemmas.{carried_into}

pub one_component : (g : GraphValue) (i : ℕ) → is_outside g i ≡ false → source_of g i ≡ target_of g i
one_component g i inside = eqb-true _ _ (not-false _ inside)

pub two_components : (g : GraphValue) (i : ℕ) → is_outside g i ≡ true → source_of g i ≢ target_of g i
two_components g i out = eqb-false _ _ (not-true _ out)

-- an arc into the set comes from it or from outside it
pub split_arc : (o s t : Bool) (x : ℕ) → (s ≡ true → t ≡ true) → (o ≡ false → s ≡ t) → when (o && t) x ≡ when (o && s) x + when (not s && t) x
split_arc true true true x closed same = omega arith
split_arc true true false x closed same = absurd (true≢false (sym (closed refl)))
split_arc true false true x closed same = omega arith
split_arc true false false x closed same = omega arith
split_arc false true t x closed same = omega arith
split_arc false false true x closed same = absurd (true≢false (sym (same refl)))
split_arc false false false x closed same = omega arith

split_root : (b r : Bool) (x : ℕ) → when b x ≡ when (b && r) x + when b (when (not r) x)
split_root true true x = omega arith
split_root true false x = omega arith
split_root false r x = omega arith

module _ (g : GraphValue) (shares : List ℕ) (t : FlowValue) (is : IsGraph g) (flow : IsFlow g shares t) (set : ℕ → Bool) (closed : IsClosed g set) where
  -- what goes into a component is all of its time, but for a root
  pub all_into : (c : ℕ) → sum_below (arc_count g) (λ i. when (enters g c i) (carried_by t i)) ≡ when (not (is_root g c)) (time_of t c)
  all_into c =
      sum_ext (arc_count g) _ (λ i. when (enters g c i) (part_of g (slice_index t.self) i) + when (enters g c i) (part_of g (slice_index t.child) i)) by_parts
      ∙ sum_add (arc_count g) _ _
      ∙ two
    where
      by_parts : (i : ℕ) → i < arc_count g → when (enters g c i) (carried_by t i) ≡ when (enters g c i) (part_of g (slice_index t.self) i) + when (enters g c i) (part_of g (slice_index t.child) i)
      by_parts i below = rw (flow.arc_self i below, flow.arc_child i below) (when_add (enters g c i) _ _)

      two : sum_below (arc_count g) (λ i. when (enters g c i) (part_of g (slice_index t.self) i)) + sum_below (arc_count g) (λ i. when (enters g c i) (part_of g (slice_index t.child) i)) ≡ when (not (is_root g c)) (time_of t c)
      two = rw (carried_into g (slice_index t.self) c, carried_into g (slice_index t.child) c) (sym (when_add (not (is_root g c)) _ _))

  from_set : sum_below (component_count g) (λ c. when (set c) (slice_index t.child c)) ≡ sum_below (arc_count g) (λ i. when (is_outside g i && set (source_of g i)) (carried_by t i))
  from_set =
      sum_ext (component_count g) _ (λ c. when (set c) (carried_from g (carried_by t) c)) (λ c h. ap (when (set c)) (flow.child c h))
      ∙ sum_by_key (arc_count g) (component_count g) set (is_outside g) (source_of g) (carried_by t) (source_within g is)

  into_set : sum_below (component_count g) (λ c. when (set c) (when (not (is_root g c)) (time_of t c))) ≡ sum_below (arc_count g) (λ i. when (is_outside g i && set (target_of g i)) (carried_by t i))
  into_set =
      sum_ext (component_count g) _ (λ c. when (set c) (sum_below (arc_count g) (λ i. when (enters g c i) (carried_by t i)))) (λ c h. ap (when (set c)) (sym (all_into c)))
      ∙ sum_by_key (arc_count g) (component_count g) set (is_outside g) (target_of g) (carried_by t) (target_within g is)

  pub conserved : IsConserved g t set
  conserved =
      let m = arc_count g in
      let n = component_count g in
      let arcs = sum_ext m _ _ (λ i h. split_arc (is_outside g i) (set (source_of g i)) (set (target_of g i)) (carried_by t i) (closed i h) (λ inside. ap set (one_component g i inside))) in
      let arcs_two = sum_add m (λ i. when (is_outside g i && set (source_of g i)) (carried_by t i)) (λ i. when (not (set (source_of g i)) && set (target_of g i)) (carried_by t i)) in
      let times = sum_ext n _ _ (λ c h. split_root (set c) (is_root g c) (time_of t c)) in
      let times_two = sum_add n (λ c. when (set c && is_root g c) (time_of t c)) (λ c. when (set c) (when (not (is_root g c)) (time_of t c))) in
      let both = sum_ext n _ _ (λ c h. when_add (set c) (slice_index t.self c) (slice_index t.child c)) in
      let both_two = sum_add n (λ c. when (set c) (slice_index t.self c)) (λ c. when (set c) (slice_index t.child c)) in
      let f = from_set in
      let e = into_set in
      omega arith
