-- The steps by which exact times are found, in fractions in lowest terms of numbers without bound, and the first step
-- that does not fit into 128 bits. Components are done in order, and of each the outside arcs that leave it in order.
use Rattle.std.specs.Prelude.{◌≡◌, ◌<◌, ◌&&◌, ℕ, Bool, true, List}
use Rattle.std.proofs.Common.{◌⊎◌}
use Rattle.call_cycles.specs.Sums.{sum_below, when}
use Rattle.call_cycles.specs.Graph.{GraphValue, arc_at, arc_count, head_of, source_of, target_of, is_outside, leaves, entering_of}
use Rattle.call_cycles.specs.Flow.{self_in}
use Rattle.call_cycles.specs.ExactFlow.{ExactTimes, carried_exactly}
use Rattle.fraction128.specs.Fractions.{Fraction, fraction, lowest, fraction_sum, product_of, FitsSum, FitsProduct, fits_sum, fits_product}
use Rattle.exact_flow.specs.Times.{in_grains}

-- the time of a component goes to an arc in proportion to its calls, and comes to what arcs before it brought to its caller
pub record StepNumbers : Type 0 where
  pub self : ℕ
  pub child : Fraction
  pub calls : Fraction
  pub before : Fraction

abbrev pub self_part : StepNumbers → Fraction
self_part n = product_of (fraction n.self 1) n.calls

abbrev pub child_part : StepNumbers → Fraction
child_part n = product_of n.child n.calls

abbrev pub with_self : StepNumbers → Fraction
with_self n = fraction_sum n.before (self_part n)

abbrev pub with_both : StepNumbers → Fraction
with_both n = fraction_sum (with_self n) (child_part n)

-- two products, and two sums
pub record FitsStep (n : StepNumbers) : Type 0 where
  pub self : FitsProduct (fraction n.self 1) n.calls
  pub child : FitsProduct n.child n.calls
  pub first : FitsSum n.before (self_part n)
  pub second : FitsSum (with_self n) (child_part n)

abbrev pub fits_step : StepNumbers → Bool
fits_step n = fits_product (fraction n.self 1) n.calls && fits_product n.child n.calls && fits_sum n.before (self_part n) && fits_sum (with_self n) (child_part n)

-- what the outside arcs with numbers below i bring to the component that arc i leaves
abbrev pub brought_before : GraphValue → ExactTimes → ℕ → ℕ
brought_before g x i = sum_below i (λ j. when (leaves g (source_of g i) j) (carried_exactly x j))

-- the step of arc i, for a solution x of the exact flow's equations
abbrev pub step_at : GraphValue → List ℕ → ExactTimes → ℕ → StepNumbers
step_at g shares x i = record {
  self = self_in g shares (target_of g i);
  child = in_grains x (x.child (target_of g i));
  calls = lowest (arc_at g i).count (entering_of g (target_of g i));
  before = in_grains x (brought_before g x i);
}

-- the steps of the arcs that leave lower components come before, and of one component those of arcs with lower numbers
abbrev pub ComesBefore : GraphValue → ℕ → ℕ → Type 0
ComesBefore g j i = (source_of g j < source_of g i) ⊎ ((source_of g j ≡ source_of g i) × (j < i))

-- all steps fit
abbrev pub IsNoneWide : GraphValue → List ℕ → ExactTimes → Type 0
IsNoneWide g shares x = (i : ℕ) → i < arc_count g → is_outside g i ≡ true → FitsStep (step_at g shares x i)

-- the first step that does not fit is that of an outside arc with this number, which leaves the component with this head
pub record IsFirstWide (g : GraphValue) (shares : List ℕ) (x : ExactTimes) (head arc : ℕ) : Type 0 where
  pub within : arc < arc_count g
  pub outside : is_outside g arc ≡ true
  pub from : head ≡ head_of g (source_of g arc)
  pub wide : FitsStep (step_at g shares x arc) → ⊥
  pub before : (j : ℕ) → j < arc_count g → is_outside g j ≡ true → ComesBefore g j arc → FitsStep (step_at g shares x j)
