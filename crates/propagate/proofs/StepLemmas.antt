-- Steps of the loops over functions and arcs.
use Rattle.std.proofs.Common.{◌≡◌, ◌<◌, ◌≤◌, ℕ, suc, ◌+◌, ◌-◌, ◌*◌, ◌/◌, true, List, length, sum, refl, arith}
use Rattle.std.specs.Prelude.{◌==◌, slice_index}
use Rattle.call_cycles.specs.Sums.{when}
use Rattle.call_cycles.specs.Graph.{GraphValue, arc_at, arc_count, component_of, calls_into, target_of, is_outside, enters, entering_of, all_calls}
use Rattle.call_cycles.specs.Flow.{self_below, part_of}
use Rattle.propagate.specs.Arcs.{earlier_calls}
use Rattle.call_cycles.proofs.SumLemmas.{sum_mono, sum_front_le, when_le}
use Rattle.call_cycles.proofs.ListLemmas.{list_at, list_long}
use Rattle.propagate.proofs.SumLemmas.{sum_of_places}

pub self_fits : (g : GraphValue) (shares : List ℕ) (f c : ℕ) → length shares ≡ g.functions → f < g.functions → self_below g shares c f + slice_index shares f ≤ sum shares
self_fits g shares f c each below =
    let those = sum_mono f (λ h. when (component_of g h == c) (slice_index shares h)) (slice_index shares) (λ h k. when_le _ (slice_index shares h)) in
    omega (arith, sum_front_le (suc f) g.functions (slice_index shares) (omega arith), sum_of_places g.functions shares each)

pub calls_fit : (g : GraphValue) (d i : ℕ) → i < arc_count g → calls_into g d i + (arc_at g i).count ≤ all_calls g
unfolding all_calls
calls_fit g d i below =
    let those = sum_mono i (λ j. when (enters g d j) (arc_at g j).count) (λ j. (arc_at g j).count) (λ j k. when_le (enters g d j) (arc_at g j).count) in
    omega (arith, sum_front_le (suc i) (arc_count g) (λ j. (arc_at g j).count) (omega arith))

-- the calls up to an outside arc are among those that enter its callee's component
pub calls_through : (g : GraphValue) (i : ℕ) → is_outside g i ≡ true → calls_into g (target_of g i) (suc i) ≡ calls_into g (target_of g i) i + (arc_at g i).count
calls_through g i out = grind arith

pub calls_within : (g : GraphValue) (i : ℕ) → i < arc_count g → is_outside g i ≡ true → calls_into g (target_of g i) i + (arc_at g i).count ≤ entering_of g (target_of g i)
unfolding entering_of
calls_within g i below out =
    grind (arith, sum_front_le (suc i) (arc_count g) (λ j. when (enters g (target_of g i) j) (arc_at g j).count) (omega arith))

pub entering_le : (g : GraphValue) (d : ℕ) → entering_of g d ≤ all_calls g
unfolding entering_of all_calls
entering_le g d = grind (arith, sum_mono)

pub part_is : (g : GraphValue) (time : ℕ → ℕ) (i x p count whole : ℕ) → is_outside g i ≡ true → x ≡ time (target_of g i) → p ≡ calls_into g (target_of g i) i
    → count ≡ (arc_at g i).count → whole ≡ entering_of g (target_of g i)
    → x * (p + count) / whole - x * p / whole ≡ part_of g time i
part_is g time i x p count whole out is_time is_calls is_count is_whole = rw (is_time, is_calls, is_count, is_whole, ← calls_through g i out, out) refl

pub before_at : (g : GraphValue) (before : List ℕ) (i : ℕ) → before ≡ earlier_calls g → i < arc_count g → slice_index before i ≡ calls_into g (target_of g i) i
unfolding earlier_calls
before_at g before i is below = list_at _ _ before is i below

pub before_long : (g : GraphValue) (before : List ℕ) → before ≡ earlier_calls g → length before ≡ arc_count g
unfolding earlier_calls
before_long g before is = list_long _ _ before is

pub arc_calls : (g : GraphValue) (i d p count whole : ℕ) → i < arc_count g → is_outside g i ≡ true → d ≡ target_of g i → p ≡ calls_into g (target_of g i) i
    → count ≡ (arc_at g i).count → 0 < count → whole ≡ entering_of g d → (p + count ≤ whole) × (0 < whole) × (whole ≤ all_calls g)
arc_calls g i d p count whole below out is_target is_before is_count some is_whole = grind (arith, calls_within, entering_le)
