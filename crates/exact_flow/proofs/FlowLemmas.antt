-- The exact flow that is made of tables whose child times are found.
use Rattle.std.proofs.Common.{◌≡◌, ◌<◌, ℕ, Bool, true, false, List, length, map, refl, ap, sym, ◌∙◌, arith}
use Rattle.std.specs.Prelude.{slice_index, if◌then◌else◌}
use Rattle.std.proofs.lemmas.List.{length-map}
use Rattle.std.proofs.lemmas.List.FromFn.{length-map-range_with_len, get_or-map-range_with_len}
use Rattle.call_cycles.specs.Sums.{when, numbers_below}
use Rattle.call_cycles.specs.Graph.{GraphValue, IsGraph, arc_at, arc_count, component_count, target_of, is_outside, entering_of}
use Rattle.call_cycles.specs.Flow.{self_in}
use Rattle.call_cycles.specs.ExactFlow.{ExactTimes, IsExactFlow}
use Rattle.call_cycles.proofs.ListLemmas.{list_at, list_long}
use Rattle.call_cycles.proofs.NumberingLemmas.{target_within}
use Rattle.fraction128.specs.Fractions.{Fraction, fraction, lowest, product_of, FitsProduct}
use Rattle.fraction128.specs.Values.{value_of}
use Rattle.propagate.proofs.ExactLemmas.{entered}
use Rattle.exact_flow.specs.Times.{HasTimes, in_grains}
use Rattle.exact_flow.specs.Steps.{IsNoneWide}
use Rattle.exact_flow.specs.Solution.{by_arcs, flow_of_times}
use Rattle.exact_flow.specs.Progress.{AreTables, child_times, outside_calls}
use Rattle.exact_flow.specs.Fields.{FitsPart, FitsIn, IsHeld, carried_part, callee_in, self_in_callee, child_in_callee, part_in, times_of}
use Rattle.exact_flow.specs.declared.flows.ExactFlow.TheInside.{Inside}
use Rattle.exact_flow.proofs.PartLemmas.{none_carried, some_carried, fits_same}
use Rattle.exact_flow.proofs.StateLemmas.{self_is, child_is, map_below}

module _ (g : GraphValue) (shares : List ℕ) (is : IsGraph g) (a : Inside) (are : AreTables g shares a.selves.items a.entering.items a.calls.items a.callees.items a.outside.items)
    (x : ExactTimes) (exact : IsExactFlow g shares x) (found : map value_of a.children.items ≡ child_times g x) where
  -- what is read for an arc in the tables
  module _ (i : ℕ) (low : i < arc_count g) where
    abbrev calls : Fraction
    calls = lowest (arc_at g i).count (entering_of g (target_of g i))

    inside : target_of g i < component_count g
    inside = target_within g is i low

    callee : callee_in a i ≡ target_of g i
    callee = list_at (arc_count g) (target_of g) a.callees.items are.callees i low

    self : self_in_callee a i ≡ fraction (self_in g shares (target_of g i)) 1
    self = ap (λ (n : ℕ). fraction n 1) (ap (slice_index a.selves.items) callee ∙ list_at (component_count g) (self_in g shares) a.selves.items are.selves (target_of g i) inside)

    child : child_in_callee a i ≡ in_grains x (x.child (target_of g i))
    child = grind (arith, get_or-map-range_with_len)

    called : slice_index a.calls.items i ≡ outside_calls g i
    called = list_at (arc_count g) (outside_calls g) a.calls.items are.calls i low

    entering : slice_index a.entering.items (callee_in a i) ≡ entering_of g (target_of g i)
    entering = ap (slice_index a.entering.items) callee ∙ list_at (component_count g) (entering_of g) a.entering.items are.entering (target_of g i) inside

    part : (read time : Fraction) (carried : ℕ) → read ≡ time → (is_outside g i ≡ true → product_of time calls ≡ in_grains x carried)
        → part_in a read i ≡ (if is_outside g i then in_grains x carried else fraction 0 1)
    part read time carried is_time there = (λ j. carried_part (is_time j) (called j) (entering j)) ∙ by (is_outside g i) refl
      where
        by : (b : Bool) → is_outside g i ≡ b → carried_part time (when b (arc_at g i).count) (entering_of g (target_of g i)) ≡ (if b then in_grains x carried else fraction 0 1)
        by true out = some_carried time (arc_at g i).count (entering_of g (target_of g i)) (is.arcs.called i low) ∙ there out
        by false out = none_carried time 0 (entering_of g (target_of g i)) refl

    fits : (read time : Fraction) → read ≡ time → (is_outside g i ≡ true → FitsProduct time calls) → FitsIn a read i
    fits read time is_time there = fits_same read time _ (outside_calls g i) _ (entering_of g (target_of g i)) is_time called entering (by (is_outside g i) refl)
      where
        by : (b : Bool) → is_outside g i ≡ b → FitsPart time (when b (arc_at g i).count) (entering_of g (target_of g i))
        by true out = record { entered = λ _. entered g is i low out; fits = λ _. there out }
        by false out = record { entered = λ some. absurd (omega arith); fits = λ some. absurd (omega arith) }

  selves_long : length a.selves.items ≡ component_count g
  selves_long = list_long (component_count g) (self_in g shares) a.selves.items are.selves

  arcs_long : length a.calls.items ≡ arc_count g
  arcs_long = list_long (arc_count g) (outside_calls g) a.calls.items are.calls

  children_long : length (map value_of a.children.items) ≡ component_count g
  children_long = ap length found ∙ length-map-range_with_len (λ c. in_grains x (x.child c)) 0 (component_count g)

  pub flow_held : IsNoneWide g shares x → IsHeld a
  flow_held none_wide = record {
    children = sym (length-map a.children.items value_of) ∙ children_long ∙ sym selves_long;
    entering = list_long (component_count g) (entering_of g) a.entering.items are.entering ∙ sym selves_long;
    callees = list_long (arc_count g) (target_of g) a.callees.items are.callees ∙ sym arcs_long;
    within = λ i below. let low = there i below in let here = callee i low in let less = inside i low in let long = selves_long in omega arith;
    fits_self = λ i below. let low = there i below in fits i low (self_in_callee a i) _ (self i low) (λ out. (none_wide i low out).self);
    fits_child = λ i below. let low = there i below in fits i low (child_in_callee a i) _ (child i low) (λ out. (none_wide i low out).child);
  }
    where
      there : (i : ℕ) → i < length a.calls.items → i < arc_count g
      there i below = let long = arcs_long in omega arith

  arcs : (time : ℕ → Fraction) (carried : ℕ → ℕ) → ((i : ℕ) → i < arc_count g → time i ≡ (if is_outside g i then in_grains x (carried i) else fraction 0 1))
      → map time (numbers_below (length a.calls.items)) ≡ by_arcs g (λ i. in_grains x (carried i))
  arcs time carried each = ap (λ (n : ℕ). map time (numbers_below n)) arcs_long ∙ map_below (arc_count g) time (λ i. if is_outside g i then in_grains x (carried i) else fraction 0 1) each

  pub flow_is : times_of a ≡ flow_of_times g shares x
  flow_is = λ j. record { self = are.selves j; child = found j; arc_self = selves j; arc_child = children j; outside = are.outside j }
    where
      selves : map (λ i. part_in a (self_in_callee a i) i) (numbers_below (length a.calls.items)) ≡ by_arcs g (λ i. in_grains x (x.arc_self i))
      selves = arcs (λ i. part_in a (self_in_callee a i) i) x.arc_self (λ i low. part i low (self_in_callee a i) _ (x.arc_self i) (self i low) (self_is g shares is x exact i low))

      children : map (λ i. part_in a (child_in_callee a i) i) (numbers_below (length a.calls.items)) ≡ by_arcs g (λ i. in_grains x (x.arc_child i))
      children = arcs (λ i. part_in a (child_in_callee a i) i) x.arc_child (λ i low. part i low (child_in_callee a i) _ (x.arc_child i) (child i low) (child_is g shares is x exact i low))

  pub flow_sized : HasTimes g (times_of a)
  flow_sized = search (selves_long, children_long, length-map-range_with_len, arcs_long)
