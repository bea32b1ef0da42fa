-- The child times while the arcs are done one after another.
use Rattle.std.proofs.Common.{◌≡◌, ◌≢◌, ◌<◌, ℕ, zero, suc, ◌+◌, ◌*◌, true, List, length, map, replicate, get_or, refl, ap, sym, ◌∙◌, subst, ⊎_elim, arith, length-set, get_or-set_same, get_or-set_other}
use Rattle.std.specs.Prelude.{◌==◌, slice_index, slice_set}
use Rattle.std.specs.List.{sum_by}
use Rattle.std.proofs.lemmas.Bool.{cases_eq, eq-eqb, ne_eqb}
use Rattle.std.proofs.lemmas.List.{get_or_default, get_or-map, ext_get_or, take_all, length-replicate}
use Rattle.std.proofs.Math.ListN.{length-map}
use Rattle.std.proofs.lemmas.List.FromFn.{length-map-range_with_len, get_or-map-range_with_len}
use Rattle.call_cycles.specs.Sums.{when, list_of, numbers_below}
use Rattle.call_cycles.specs.Graph.{GraphValue, IsGraph, arc_at, arc_count, component_count, source_of, target_of, is_outside, entering_of}
use Rattle.call_cycles.specs.Flow.{self_in}
use Rattle.call_cycles.specs.ExactFlow.{ExactTimes, IsExactFlow, carried_exactly}
use Rattle.call_cycles.proofs.ListLemmas.{list_at}
use Rattle.call_cycles.proofs.NumberingLemmas.{source_within, target_within, goes_down}
use Rattle.fraction128.specs.Fractions.{Fraction, fraction, lowest, fraction_sum, IsValue}
use Rattle.fraction128.proofs.ValueLemmas.{lowest_is, lowest_same, whole_is, whole_lowest, product_value, sum_value}
use Rattle.propagate.specs.Arcs.{IsLeaving, carried_by_first, outside_arcs_of}
use Rattle.propagate.proofs.ExactLemmas.{entered}
use Rattle.propagate.proofs.OrderLemmas.{caller_order}
use Rattle.propagate.proofs.TimeLemmas.{arc_here, all_done, one_more}
use Rattle.exact_flow.specs.Times.{in_grains, outside_numbers, time_at}
use Rattle.exact_flow.specs.Steps.{StepNumbers, FitsStep, self_part, child_part, with_both, step_at, brought_before, IsNoneWide}
use Rattle.exact_flow.specs.Progress.{child_times, no_times, step_in}
use Rattle.exact_flow.proofs.OrderLemmas.{lower_numbers}

-- the first n outside arcs are done
pub record IsSoFar (g : GraphValue) (shares : List ℕ) (n : ℕ) (times : List Fraction) : Type 0 where
  pub each : length times ≡ component_count g
  pub child : (x : ExactTimes) → IsExactFlow g shares x → (c : ℕ) → c < component_count g → time_at times c ≡ in_grains x (carried_by_first (outside_arcs_of g) (carried_exactly x) n c)
  pub fits : (x : ExactTimes) → IsExactFlow g shares x → (k : ℕ) (d : ℕ × ℕ) → k < n → FitsStep (step_at g shares x (get_or (outside_arcs_of g) k d).1)

zero_lowest : (d : ℕ) → 0 < d → fraction 0 1 ≡ lowest 0 d
zero_lowest d some = sym (lowest_same 0 d 0 1 some (omega arith) (omega arith) ∙ whole_lowest 0)

nothing_at : (n i : ℕ) → time_at (replicate n (fraction 0 1)) i ≡ fraction 0 1
nothing_at zero i = refl
nothing_at (suc n) zero = refl
nothing_at (suc n) (suc i) = nothing_at n i

pub none_done : (g : GraphValue) (shares : List ℕ) (times : List Fraction) → times ≡ no_times g → IsSoFar g shares 0 times
none_done g shares times none = grind (arith, length-replicate, nothing_at, zero_lowest)

-- ---- values of one step

module _ (g : GraphValue) (shares : List ℕ) (is : IsGraph g) (x : ExactTimes) (exact : IsExactFlow g shares x) (i : ℕ) (below : i < arc_count g) (out : is_outside g i ≡ true) where
  abbrev numbers : StepNumbers
  numbers = step_at g shares x i

  abbrev brought : ℕ
  brought = brought_before g x i

  is_calls : IsValue numbers.calls (arc_at g i).count (entering_of g (target_of g i))
  is_calls = lowest_is (arc_at g i).count (entering_of g (target_of g i)) (entered g is i below out)

  pub self_is : self_part numbers ≡ in_grains x (x.arc_self i)
  self_is =
      product_value (fraction (self_in g shares (target_of g i)) 1) numbers.calls (x.grain * self_in g shares (target_of g i)) x.grain exact.some (whole_is (self_in g shares (target_of g i)) x.grain)
      (arc_at g i).count (entering_of g (target_of g i)) (x.arc_self i) (entered g is i below out) is_calls (exact.arc_self i below out)

  pub child_is : child_part numbers ≡ in_grains x (x.arc_child i)
  child_is =
      product_value numbers.child numbers.calls (x.child (target_of g i)) x.grain exact.some (lowest_is (x.child (target_of g i)) x.grain exact.some)
      (arc_at g i).count (entering_of g (target_of g i)) (x.arc_child i) (entered g is i below out) is_calls (exact.arc_child i below out)

  sum_in_grains : (a b : ℕ) → fraction_sum (in_grains x a) (in_grains x b) ≡ in_grains x (a + b)
  sum_in_grains a b = sum_value (in_grains x a) (in_grains x b) a x.grain exact.some (lowest_is a x.grain exact.some) b (lowest_is b x.grain exact.some)

  pub both_is : with_both numbers ≡ in_grains x (brought + x.arc_self i + x.arc_child i)
  both_is = grind (arith, self_is, sum_in_grains, child_is)

-- ---- one arc after another

-- the arc at a place of the list of their numbers stands there in the list of outside arcs
pub numbered : (g : GraphValue) → IsGraph g → (n i : ℕ) → n < length (outside_numbers g) → get_or (outside_numbers g) n i ≡ i
    → (n < length (outside_arcs_of g)) × ((source_of g i, i) ≡ get_or (outside_arcs_of g) n (source_of g i, i))
numbered g is n i below at = (low, λ j. (source j, number j))
  where
    low : n < length (outside_arcs_of g)
    low = omega (arith, length-map (outside_arcs_of g) (λ (p : ℕ × ℕ). p.1))

    p : ℕ × ℕ
    p = get_or (outside_arcs_of g) n (source_of g i, i)

    number : i ≡ p.1
    number = sym (sym (get_or-map (λ (q : ℕ × ℕ). q.1) (outside_arcs_of g) n (source_of g i, i) i low) ∙ at)

    here : IsLeaving g p
    here = arc_here g (outside_arcs_of g) (caller_order g is) (λ k. 0) n p low (get_or_default (outside_arcs_of g) n (source_of g i, i) p low)

    source : source_of g i ≡ p.0
    source = ap (source_of g) number ∙ sym here.1

module _ (g : GraphValue) (is : IsGraph g) (n i : ℕ) (below : n < length (outside_numbers g)) (here : get_or (outside_numbers g) n i ≡ i) where
  abbrev order : List (ℕ × ℕ)
  order = outside_arcs_of g

  abbrev p : ℕ × ℕ
  p = (source_of g i, i)

  low : n < length order
  low = (numbered g is n i below here).0

  at : p ≡ get_or order n p
  at = (numbered g is n i below here).1

  pub leaving : IsLeaving g p
  leaving = arc_here g order (caller_order g is) (λ k. 0) n p low at

  module _ (shares selves : List ℕ) (times : List Fraction) (are : selves ≡ list_of (component_count g) (self_in g shares)) (so_far : IsSoFar g shares n times) where
    module _ (x : ExactTimes) (exact : IsExactFlow g shares x) where
      before_is : carried_by_first order (carried_exactly x) n (source_of g i) ≡ brought_before g x i
      before_is = lower_numbers g order (caller_order g is) n p low at (carried_exactly x)

      pub same_numbers : step_in g selves times i ≡ step_at g shares x i
      same_numbers = λ j. record { self = self j; child = child j; calls = lowest (arc_at g i).count (entering_of g (target_of g i)); before = before j }
        where
          inside : target_of g i < component_count g
          inside = target_within g is i leaving.0

          self : slice_index selves (target_of g i) ≡ self_in g shares (target_of g i)
          self = list_at (component_count g) (self_in g shares) selves are (target_of g i) inside

          child : time_at times (target_of g i) ≡ in_grains x (x.child (target_of g i))
          child =
              so_far.child x exact (target_of g i) inside
              ∙ ap (in_grains x) (all_done g order (caller_order g is) (carried_exactly x) n p low at (target_of g i) (goes_down g is i leaving.0 leaving.2) ∙ sym (exact.child (target_of g i) inside))

          before : time_at times (source_of g i) ≡ in_grains x (brought_before g x i)
          before = so_far.child x exact (source_of g i) (source_within g is i leaving.0) ∙ ap (in_grains x) before_is

    -- what came of the arc's step is put down
    pub one_more_done : (after : Fraction) → after ≡ with_both (step_in g selves times i) → FitsStep (step_in g selves times i) → IsSoFar g shares (n + 1) (slice_set times (source_of g i) after)
    one_more_done after is_after fit = record {
      each = length-set times (source_of g i) after ∙ so_far.each;
      child = child;
      fits = λ x exact k d less.
          ⊎_elim
          (λ (last : k ≡ n). subst (λ (q : ℕ × ℕ). FitsStep (step_at g shares x q.1)) (at ∙ ap (λ (j : ℕ). get_or order j p) (sym last) ∙ get_or_default order k p d (rw last low)) (subst FitsStep (same_numbers x exact) fit))
          (λ (earlier : k ≢ n). so_far.fits x exact k d (omega arith))
          (cases_eq k n);
    }
      where
        after_is : (x : ExactTimes) → IsExactFlow g shares x → after ≡ in_grains x (carried_by_first order (carried_exactly x) n (source_of g i) + carried_exactly x i)
        after_is x exact =
            is_after ∙ ap with_both (same_numbers x exact) ∙ both_is g shares is x exact i leaving.0 leaving.2
            ∙ ap (in_grains x) (let b = before_is x exact in omega arith)

        child : (x : ExactTimes) → IsExactFlow g shares x → (c : ℕ) → c < component_count g → time_at (slice_set times (source_of g i) after) c ≡ in_grains x (carried_by_first order (carried_exactly x) (n + 1) c)
        child x exact c inside =
            let more = one_more g order (caller_order g is) (carried_exactly x) n p low at c in
            ⊎_elim
            (λ (same : source_of g i ≡ c).
            let this : when (source_of g i == c) (carried_exactly x i) ≡ carried_exactly x i = rw (eq-eqb (source_of g i) c same) refl in
            let old = ap (carried_by_first order (carried_exactly x) n) same in
            let there : source_of g i < length times = let each = so_far.each in omega arith in
            ap (time_at (slice_set times (source_of g i) after)) (sym same) ∙ get_or-set_same times (source_of g i) after (fraction 0 1) there ∙ after_is x exact ∙ ap (in_grains x) (omega arith))
            (λ (apart : source_of g i ≢ c).
            let this : when (source_of g i == c) (carried_exactly x i) ≡ 0 = rw (ne_eqb (source_of g i) c apart) refl in
            get_or-set_other times (source_of g i) c after (fraction 0 1) (λ q. apart (sym q)) ∙ so_far.child x exact c inside ∙ ap (in_grains x) (omega arith))
            (cases_eq (source_of g i) c)

-- ---- all arcs are done

same_times : (times : List Fraction) (n : ℕ) (time : ℕ → Fraction) → length times ≡ n → ((i : ℕ) → i < n → time_at times i ≡ time i) → times ≡ map time (numbers_below n)
same_times times n time long each =
    ext_get_or (fraction 0 1) times (map time (numbers_below n)) (long ∙ sym (length-map-range_with_len time 0 n))
    (λ i low. let inside : i < n = omega (arith, long) in each i inside ∙ sym (get_or-map-range_with_len time 0 n i i (fraction 0 1) inside (omega arith)))

pub map_below : (n : ℕ) (f h : ℕ → Fraction) → ((i : ℕ) → i < n → f i ≡ h i) → map f (numbers_below n) ≡ map h (numbers_below n)
map_below n f h same =
    same_times (map f (numbers_below n)) n h (length-map-range_with_len f 0 n) (λ i low. get_or-map-range_with_len f 0 n i i (fraction 0 1) low (omega arith) ∙ same i low)

module _ (g : GraphValue) (shares : List ℕ) (is : IsGraph g) (n : ℕ) (times : List Fraction) (last : n ≡ length (outside_numbers g)) (so_far : IsSoFar g shares n times) (x : ExactTimes) (exact : IsExactFlow g shares x) where
  all : n ≡ length (outside_arcs_of g)
  all = last ∙ length-map (outside_arcs_of g) (λ (p : ℕ × ℕ). p.1)

  pub children_found : times ≡ child_times g x
  children_found = same_times times (component_count g) (λ c. in_grains x (x.child c)) so_far.each each
    where
      each : (c : ℕ) → c < component_count g → time_at times c ≡ in_grains x (x.child c)
      each c low =
          so_far.child x exact c low
          ∙ ap (in_grains x) (ap (λ (xs : List (ℕ × ℕ)). sum_by (λ (p : ℕ × ℕ). when (p.0 == c) (carried_exactly x p.1)) xs) (take_all n (outside_arcs_of g) (let a = all in omega arith))
          ∙ (caller_order g is).all (carried_exactly x) c ∙ sym (exact.child c low))

  pub none_wide : IsNoneWide g shares x
  none_wide i low out = grind (arith, caller_order, all)
