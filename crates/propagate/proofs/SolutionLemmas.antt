-- The equations of the flow have a solution.
use Rattle.std.proofs.Common.{◌≡◌, ◌<◌, ℕ, zero, suc, ◌+◌, List, refl, ap, sym, ◌∙◌, arith}
use Rattle.std.specs.Prelude.{slice_index}
use Rattle.std.proofs.lemmas.List.FromFn.{length-map-range_with_len}
use Rattle.call_cycles.specs.Sums.{when, list_of}
use Rattle.call_cycles.specs.Graph.{GraphValue, IsGraph, arc_count, component_count, leaves}
use Rattle.call_cycles.specs.Flow.{IsFlow, part_of, carried_from, leaves_function, self_in}
use Rattle.propagate.specs.Solution.{child_after, child_in, carried_in, flow_in}
use Rattle.call_cycles.proofs.SumLemmas.{sum_ext}
use Rattle.call_cycles.proofs.ListLemmas.{list_at}
use Rattle.call_cycles.proofs.NumberingLemmas.{target_within}
use Rattle.propagate.proofs.UniqueLemmas.{carried_same, part_same}

stays : (g : GraphValue) (shares : List ℕ) → IsGraph g → (n c : ℕ) → c < n → child_after g shares (suc n) c ≡ child_after g shares n c
stays g shares is zero c low = absurd (omega arith)
stays g shares is (suc n) c low =
    carried_same g is shares (child_after g shares (suc n)) (child_after g shares n) c (λ d less. stays g shares is n d (omega arith))

pub child_in_equation : (g : GraphValue) (shares : List ℕ) → IsGraph g → (c : ℕ) → c < component_count g
    → child_in g shares c ≡ carried_from g (carried_in g shares (child_in g shares)) c
unfolding child_in
child_in_equation g shares is c below = sym (stays g shares is (component_count g) c below)

pub at_list_of : (n : ℕ) (f : ℕ → ℕ) (i : ℕ) → i < n → slice_index (list_of n f) i ≡ f i
at_list_of n f i below = list_at n f (list_of n f) refl i below

pub solution : (g : GraphValue) (shares : List ℕ) → IsGraph g → IsFlow g shares (flow_in g shares)
unfolding flow_in
solution g shares is = record {
  selves = length-map-range_with_len _ 0 n;
  children = length-map-range_with_len _ 0 n;
  arc_selves = length-map-range_with_len _ 0 m;
  arc_children = length-map-range_with_len _ 0 m;
  member_children = length-map-range_with_len _ 0 g.functions;
  self = λ c h. at_list_of n _ c h;
  arc_self = λ i h. arc_part (self_in g shares) i h;
  arc_child = λ i h. arc_part (child_in g shares) i h;
  child = λ c h. at_list_of n _ c h ∙ child_in_equation g shares is c h ∙ sum_ext m _ _ (λ i below. ap (when (leaves g c i)) (both i below));
  member_child = λ f h. at_list_of g.functions _ f h ∙ sum_ext m _ _ (λ i below. ap (when (leaves_function g f i)) (both i below));
}
  where
    m : ℕ
    m = arc_count g

    n : ℕ
    n = component_count g

    arc_part : (time : ℕ → ℕ) (i : ℕ) → i < arc_count g → slice_index (list_of (arc_count g) (part_of g time)) i ≡ part_of g (slice_index (list_of (component_count g) time)) i
    arc_part time i h = search (at_list_of, part_same, target_within)

    both : (i : ℕ) → i < arc_count g
        → part_of g (self_in g shares) i + part_of g (child_in g shares) i
        ≡ slice_index (list_of (arc_count g) (part_of g (self_in g shares))) i + slice_index (list_of (arc_count g) (part_of g (child_in g shares))) i
    both i below = rw (at_list_of (arc_count g) (part_of g (self_in g shares)) i below, at_list_of (arc_count g) (part_of g (child_in g shares)) i below) refl
