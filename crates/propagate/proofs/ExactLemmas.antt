-- The equations of exact times have a solution, and all solutions have the same times.
use Rattle.std.proofs.Common.{◌≡◌, ◌≢◌, ◌<◌, ◌≤◌, ℕ, zero, suc, ◌+◌, ◌*◌, max, Bool, true, false, ◌&&◌, List, refl, ap, sym, ◌∙◌, ⊎_elim, arith}
use Rattle.std.specs.Prelude.{◌==◌}
use Rattle.std.proofs.Math.Nat.{eq_of_mul-eq-mul_right}
use Rattle.std.proofs.lemmas.Bool.{eq-eqb, ne_eqb, and_parts, cases_eq}
use Rattle.call_cycles.specs.Sums.{sum_below, when}
use Rattle.call_cycles.specs.Graph.{GraphValue, IsGraph, arc_at, arc_count, component_count, is_outside, enters, leaves, target_of, entering_of}
use Rattle.call_cycles.specs.Flow.{carried_from, carried_from_function, leaves_function, self_in}
use Rattle.call_cycles.specs.ExactFlow.{ExactTimes, IsExactFlow, AreSameTimes, carried_exactly}
use Rattle.call_cycles.proofs.SumLemmas.{sum_ext}
use Rattle.call_cycles.proofs.NumberingLemmas.{target_within, goes_down}
use Rattle.propagate.specs.ExactSolution.{handed_on, exact_after, exact_in}
use Rattle.propagate.proofs.UniqueLemmas.{when_ext}
use Rattle.propagate.proofs.StepLemmas.{calls_within}

when_times : (b : Bool) (x k : ℕ) → when b x * k ≡ when b (x * k)
when_times true x k = refl
when_times false x k = omega arith

sum_times : (n : ℕ) (f : ℕ → ℕ) (k : ℕ) → sum_below n f * k ≡ sum_below n (λ i. f i * k)
sum_times zero f k = omega arith
sum_times (suc n) f k = let ih = sum_times n f k in omega arith

-- a sum of chosen terms, k times
pub chosen_times : (n : ℕ) (chosen : ℕ → Bool) (f : ℕ → ℕ) (k : ℕ) → sum_below n (λ i. when (chosen i) (f i)) * k ≡ sum_below n (λ i. when (chosen i) (f i * k))
chosen_times n chosen f k = sum_times n (λ i. when (chosen i) (f i)) k ∙ sum_ext n _ _ (λ i h. when_times (chosen i) (f i) k)

pub entered : (g : GraphValue) → IsGraph g → (i : ℕ) → i < arc_count g → is_outside g i ≡ true → 0 < entering_of g (target_of g i)
entered g is i below out = grind (arith, calls_within g i below out)

pub not_entered : (g : GraphValue) → IsGraph g → (d : ℕ) → entering_of g d ≤ 0 → (i : ℕ) → i < arc_count g → enters g d i ≡ false
not_entered g is d none i below = grind (arith, entered)

pub calls_entering : (g : GraphValue) (d : ℕ) → sum_below (arc_count g) (λ i. when (enters g d i) (arc_at g i).count) ≡ entering_of g d
unfolding entering_of
calls_entering g d = refl

-- ---- all solutions

-- two quotients by n are the same
same_quotient : (n a b p q A B : ℕ) → 0 < n → a * n ≡ A → b * n ≡ B → A * q ≡ B * p → a * q ≡ b * p
same_quotient n a b p q A B some is_a is_b same =
    let left : a * q * n ≡ A * q = let e = ap (λ (z : ℕ). z * q) is_a in omega arith in
    let right : b * p * n ≡ B * p = let e = ap (λ (z : ℕ). z * p) is_b in omega arith in
    eq_of_mul-eq-mul_right n some (a * q) (b * p) (left ∙ same ∙ sym right)

module _ (g : GraphValue) (shares : List ℕ) (is : IsGraph g) (x y : ExactTimes) (one : IsExactFlow g shares x) (two : IsExactFlow g shares y) where
  same_arc_self : (i : ℕ) → i < arc_count g → is_outside g i ≡ true → x.arc_self i * y.grain ≡ y.arc_self i * x.grain
  same_arc_self i below out =
      same_quotient (entering_of g (target_of g i)) (x.arc_self i) (y.arc_self i) x.grain y.grain _ _ (entered g is i below out) (one.arc_self i below out) (two.arc_self i below out) (omega arith)

  same_arc_child : (i : ℕ) → i < arc_count g → is_outside g i ≡ true → x.child (target_of g i) * y.grain ≡ y.child (target_of g i) * x.grain → x.arc_child i * y.grain ≡ y.arc_child i * x.grain
  same_arc_child i below out callee =
      let all = ap (λ (z : ℕ). z * (arc_at g i).count) callee in
      same_quotient (entering_of g (target_of g i)) (x.arc_child i) (y.arc_child i) x.grain y.grain _ _ (entered g is i below out) (one.arc_child i below out) (two.arc_child i below out) (omega arith)

  -- what the chosen arcs carry
  same_carried : (chosen : ℕ → Bool) (a b : ℕ) → a ≡ sum_below (arc_count g) (λ i. when (chosen i) (carried_exactly x i)) → b ≡ sum_below (arc_count g) (λ i. when (chosen i) (carried_exactly y i))
      → ((i : ℕ) → i < arc_count g → chosen i ≡ true → (is_outside g i ≡ true) × (x.arc_child i * y.grain ≡ y.arc_child i * x.grain)) → a * y.grain ≡ b * x.grain
  same_carried chosen a b is_a is_b arcs =
      ap (λ (z : ℕ). z * y.grain) is_a
      ∙ chosen_times (arc_count g) chosen (carried_exactly x) y.grain
      ∙ sum_ext (arc_count g) _ _ (λ i below. when_ext (chosen i) _ _ (each i below))
      ∙ sym (chosen_times (arc_count g) chosen (carried_exactly y) x.grain)
      ∙ sym (ap (λ (z : ℕ). z * x.grain) is_b)
    where
      each : (i : ℕ) → i < arc_count g → chosen i ≡ true → carried_exactly x i * y.grain ≡ carried_exactly y i * x.grain
      each i below taken =
          let both = arcs i below taken in
          omega (arith, same_arc_self i below both.0, both.1)

  same_below : (n c : ℕ) → c < n → c < component_count g → x.child c * y.grain ≡ y.child c * x.grain
  same_below zero c low below = absurd (omega arith)
  same_below (suc n) c low below = same_carried (leaves g c) (x.child c) (y.child c) (one.child c below) (two.child c below) (arcs (λ d lower within. same_below n d (omega arith) within))
    where
      arcs : ((d : ℕ) → d < c → d < component_count g → x.child d * y.grain ≡ y.child d * x.grain)
          → (i : ℕ) → i < arc_count g → leaves g c i ≡ true → (is_outside g i ≡ true) × (x.arc_child i * y.grain ≡ y.arc_child i * x.grain)
      arcs before i within taken = grind (arith, goes_down, same_arc_child)

  same_child : (c : ℕ) → c < component_count g → x.child c * y.grain ≡ y.child c * x.grain
  same_child c below = same_below (component_count g) c below below

  same_out : (i : ℕ) → i < arc_count g → is_outside g i ≡ true → x.arc_child i * y.grain ≡ y.arc_child i * x.grain
  same_out i below out = same_arc_child i below out (same_child (target_of g i) (target_within g is i below))

  pub same_times : AreSameTimes g x y
  same_times = record {
    child = same_child;
    arc_self = same_arc_self;
    arc_child = same_out;
    member_child = λ f below.
        same_carried (leaves_function g f) (x.member_child f) (y.member_child f) (one.member_child f below) (two.member_child f below)
        (λ i within taken. let both = and_parts (is_outside g i) ((arc_at g i).caller == f) taken in (both.0, same_out i within both.0));
  }

-- ---- a solution

-- the equations of the arcs that enter the components below n; the other arcs carry nothing yet
record IsHandedOn (g : GraphValue) (shares : List ℕ) (n : ℕ) (x : ExactTimes) : Type 0 where
  some : 0 < x.grain
  arc_self : (i : ℕ) → i < arc_count g → is_outside g i ≡ true → target_of g i < n → x.arc_self i * entering_of g (target_of g i) ≡ x.grain * self_in g shares (target_of g i) * (arc_at g i).count
  arc_child : (i : ℕ) → i < arc_count g → is_outside g i ≡ true → target_of g i < n → x.arc_child i * entering_of g (target_of g i) ≡ x.child (target_of g i) * (arc_at g i).count
  no_self : (i : ℕ) → i < arc_count g → is_outside g i ≡ true → n ≤ target_of g i → x.arc_self i ≡ 0
  no_child : (i : ℕ) → i < arc_count g → is_outside g i ≡ true → n ≤ target_of g i → x.arc_child i ≡ 0
  child : (c : ℕ) → x.child c ≡ carried_from g (carried_exactly x) c
  member_child : (f : ℕ) → x.member_child f ≡ carried_from_function g (carried_exactly x) f

module _ (g : GraphValue) (shares : List ℕ) (is : IsGraph g) where
  none_yet : IsHandedOn g shares 0 (exact_after g shares 0)
  none_yet = grind arith

  module _ (n : ℕ) (x : ExactTimes) (had : IsHandedOn g shares n x) where
    calls : ℕ
    calls = max 1 (entering_of g n)

    pays_none : (i : ℕ) (z : ℕ) → target_of g i ≢ n → when (enters g n i) z ≡ 0
    pays_none i z apart = rw (ne_eqb (target_of g i) n apart) (none (is_outside g i))
      where
        none : (o : Bool) → when (o && false) z ≡ 0
        none true = refl
        none false = refl

    pays : (i : ℕ) (z : ℕ) → is_outside g i ≡ true → target_of g i ≡ n → when (enters g n i) z ≡ z
    pays i z out at = rw (out, eq-eqb (target_of g i) n at) refl

    -- what a component up to n gets is multiplied
    scaled : (c : ℕ) → c ≤ n → (handed_on g shares n x).child c ≡ x.child c * calls
    unfolding calls
    scaled c low =
        sum_ext (arc_count g) _ _ (λ i below. when_ext (leaves g c i) _ _ (each i below))
        ∙ sym (chosen_times (arc_count g) (leaves g c) (carried_exactly x) calls)
        ∙ sym (ap (λ (z : ℕ). z * calls) (had.child c))
      where
        each : (i : ℕ) → i < arc_count g → leaves g c i ≡ true → carried_exactly (handed_on g shares n x) i ≡ carried_exactly x i * calls
        each i below taken = grind (arith, goes_down)

    kept_arc : (a w e A : ℕ) → w ≡ 0 → a * e ≡ A → (a * calls + w) * e ≡ A * calls
    kept_arc a w e A none was = rw none (let more = ap (λ (z : ℕ). z * calls) was in omega arith)

    new_arc : (a w e A : ℕ) → a ≡ 0 → w ≡ A → calls ≡ e → (a * calls + w) * e ≡ A * calls
    new_arc a w e A none pay all = rw (none, pay, all) (omega arith)

    all_calls_enter : (i : ℕ) → i < arc_count g → is_outside g i ≡ true → target_of g i ≡ n → calls ≡ entering_of g (target_of g i)
    unfolding calls
    all_calls_enter i below out at = grind (arith, entered)

    more_self : (i : ℕ) → i < arc_count g → is_outside g i ≡ true → target_of g i < suc n
        → (handed_on g shares n x).arc_self i * entering_of g (target_of g i) ≡ (handed_on g shares n x).grain * self_in g shares (target_of g i) * (arc_at g i).count
    unfolding calls
    more_self i below out low =
        let A = x.grain * self_in g shares (target_of g i) * (arc_at g i).count in
        let at_n = x.grain * self_in g shares n * (arc_at g i).count in
        let w = when (enters g n i) at_n in
        let turned : A * calls ≡ x.grain * calls * self_in g shares (target_of g i) * (arc_at g i).count = omega arith in
        ⊎_elim
        (λ (at : target_of g i ≡ n).
        new_arc (x.arc_self i) w (entering_of g (target_of g i)) A (had.no_self i below out (omega arith))
        (pays i at_n out at ∙ ap (λ (d : ℕ). x.grain * self_in g shares d * (arc_at g i).count) (sym at)) (all_calls_enter i below out at) ∙ turned)
        (λ (apart : target_of g i ≢ n).
        kept_arc (x.arc_self i) w (entering_of g (target_of g i)) A (pays_none i at_n apart) (had.arc_self i below out (omega arith)) ∙ turned)
        (cases_eq (target_of g i) n)

    more_child : (i : ℕ) → i < arc_count g → is_outside g i ≡ true → target_of g i < suc n
        → (handed_on g shares n x).arc_child i * entering_of g (target_of g i) ≡ (handed_on g shares n x).child (target_of g i) * (arc_at g i).count
    unfolding calls
    more_child i below out low =
        let A = x.child (target_of g i) * (arc_at g i).count in
        let at_n = x.child n * (arc_at g i).count in
        let w = when (enters g n i) at_n in
        let turned : A * calls ≡ (handed_on g shares n x).child (target_of g i) * (arc_at g i).count = rw (scaled (target_of g i) (omega arith)) (omega arith) in
        ⊎_elim
        (λ (at : target_of g i ≡ n).
        new_arc (x.arc_child i) w (entering_of g (target_of g i)) A (had.no_child i below out (omega arith))
        (pays i at_n out at ∙ ap (λ (d : ℕ). x.child d * (arc_at g i).count) (sym at)) (all_calls_enter i below out at) ∙ turned)
        (λ (apart : target_of g i ≢ n).
        kept_arc (x.arc_child i) w (entering_of g (target_of g i)) A (pays_none i at_n apart) (had.arc_child i below out (omega arith)) ∙ turned)
        (cases_eq (target_of g i) n)

    handed : IsHandedOn g shares (suc n) (handed_on g shares n x)
    unfolding calls
    handed = grind (arith, more_self, more_child)

  all_handed : (n : ℕ) → IsHandedOn g shares n (exact_after g shares n)
  all_handed zero = none_yet
  all_handed (suc n) = handed n (exact_after g shares n) (all_handed n)

  pub exact_solution : IsExactFlow g shares (exact_in g shares)
  unfolding exact_in
  exact_solution = grind (arith, all_handed)
