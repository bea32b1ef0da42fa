-- The times of components that are no cycles are those of their functions.
use Rattle.std.proofs.Common.{◌≡◌, ◌≢◌, ◌<◌, ℕ, Bool, true, false, ◌&&◌, List, refl, ap, sym, ◌∙◌, ⊎_elim, arith}
use Rattle.std.specs.Prelude.{◌==◌, slice_index, if◌then◌else◌}
use Rattle.std.proofs.lemmas.Bool.{cases_eq, true≢false}
use Rattle.call_cycles.specs.Sums.{sum_below, when}
use Rattle.call_cycles.specs.Graph.{GraphValue, IsGraph, arc_at, arc_count, component_of, component_count, head_of, is_cycle, is_outside, source_of}
use Rattle.call_cycles.specs.Flow.{carried_by, carried_from, carried_from_function, is_root, self_in, time_of}
use Rattle.call_cycles.proofs.MemberLemmas.{cycles_are}
use Rattle.call_cycles.proofs.SumLemmas.{sum_ext, sum_at}
use Rattle.symbol_shares.specs.Shares.{attributed_of}
use Rattle.propagate.proofs.BoundLemmas.{roots_have_all}
use Rattle.flat_report.specs.Sources.{AreOfOne, Sources, inclusive_total}
use Rattle.graph_report.specs.Roots.{has_own_entry, shown_total}

-- ---- a component of one function

module _ (g : GraphValue) (is : IsGraph g) (c : ℕ) (low : c < component_count g) (single : is_cycle g c ≡ false) where
  head : ℕ
  head = head_of g c

  only : (f : ℕ) → f < g.functions → component_of g f ≡ c → f ≡ head_of g c
  only f below at =
      ⊎_elim
      (λ (same : f ≡ head_of g c). same)
      (λ (apart : f ≢ head_of g c). absurd (true≢false (sym ((cycles_are g c is low).1 (f, below, at, apart)) ∙ single)))
      (cases_eq f (head_of g c))

  member : (f : ℕ) → f < g.functions → (component_of g f == c) ≡ (head_of g c == f)
  member f below = grind (arith, only)

  pub own_share : (shares : List ℕ) → self_in g shares c ≡ slice_index shares (head_of g c)
  own_share shares =
      sum_ext g.functions _ (λ h. when true (when (true && head_of g c == h) (slice_index shares (head_of g c)))) each
      ∙ sum_at g.functions (λ h. true) true (head_of g c) (slice_index shares (head_of g c)) (is.components.heads_below c low)
    where
      by : (h : ℕ) (b : Bool) → (head_of g c == h) ≡ b → when b (slice_index shares h) ≡ when b (slice_index shares (head_of g c))
      by h b same = grind arith

      each : (h : ℕ) → h < g.functions → when (component_of g h == c) (slice_index shares h) ≡ when (head_of g c == h) (slice_index shares (head_of g c))
      each h below = ap (λ (b : Bool). when b (slice_index shares h)) (member h below) ∙ by h (head_of g c == h) refl

  pub own_arcs : (carried : ℕ → ℕ) → carried_from_function g carried (head_of g c) ≡ carried_from g carried c
  own_arcs carried = sum_ext (arc_count g) _ _ (λ i below. ap (λ (b : Bool). when (is_outside g i && b) (carried i)) (caller i below))
    where
      caller : (i : ℕ) → i < arc_count g → ((arc_at g i).caller == head_of g c) ≡ (source_of g i == c)
      caller i below = grind (arith, only)

-- ---- the totals of entries

module _ (s : Sources) (fit : AreOfOne s) where
  is : IsGraph s.graph
  is = fit.graph

  single_total : (c : ℕ) → c < component_count s.graph → is_cycle s.graph c ≡ false → inclusive_total s (head_of s.graph c) ≡ time_of s.flow c
  single_total c low single =
      let self = fit.flow.self c low ∙ own_share s.graph is c low single s.shares.of in
      let child = fit.flow.member_child (head_of s.graph c) (is.components.heads_below c low) ∙ own_arcs s.graph is c low single (carried_by s.flow) ∙ sym (fit.flow.child c low) in
      omega arith

  pub totals_are_times : (c : ℕ) → c < component_count s.graph → shown_total s c ≡ time_of s.flow c
  totals_are_times c low = by (is_cycle s.graph c) refl
    where
      by : (b : Bool) → is_cycle s.graph c ≡ b → (if b then time_of s.flow c else inclusive_total s (head_of s.graph c)) ≡ time_of s.flow c
      by b at = grind (arith, single_total)

  pub root_entries : sum_below (component_count s.graph) (λ c. when (is_root s.graph c && has_own_entry s c) (shown_total s c)) ≡ attributed_of s.shares
  root_entries =
      sum_ext (component_count s.graph) _ _ (λ c low. by c low (is_root s.graph c) (has_own_entry s c) refl)
      ∙ roots_have_all s.graph s.shares.of is (fit.each ∙ sym fit.functions) s.flow fit.flow
    where
      by : (c : ℕ) → c < component_count s.graph → (r b : Bool) → has_own_entry s c ≡ b → when (r && b) (shown_total s c) ≡ when r (time_of s.flow c)
      by c low r b at = grind (arith, totals_are_times)
