-- How far the times of a flow are from the exact ones. Each arc adds less than two grains, one for its part of the self
-- time and one for that of the child time; what a component's own time is off by goes on over the arcs that enter it.
use Rattle.std.proofs.Common.{◌≡◌, ◌<◌, ◌≤◌, ℕ, zero, suc, ◌+◌, ◌-◌, ◌*◌, ◌/◌, Bool, true, false, not, ◌&&◌, List, refl, ap, sym, ◌∙◌, ⊎_elim, ltb, arith}
use Rattle.std.specs.Prelude.{slice_index}
use Rattle.std.specs.Int.{abs_diff}
use Rattle.std.proofs.Math.Nat.{mul-sub, mul_comm, mul-le-mul_right, mul-div-le, lt-div-mul-add, le_of_mul-le-mul_right}
use Rattle.std.proofs.lemmas.Bool.{cases_lt}
use Rattle.call_cycles.specs.Sums.{sum_below, when}
use Rattle.call_cycles.specs.Graph.{GraphValue, IsGraph, arc_at, arc_count, component_count, component_of, is_outside, enters, leaves, source_of, target_of, entering_of}
use Rattle.call_cycles.specs.Flow.{FlowValue, IsFlow, IsClosed, part_of, carried_by, leaves_function, self_in}
use Rattle.call_cycles.specs.ExactFlow.{ExactTimes, IsExactFlow, IsNear, IsNearFlow, carried_exactly, outside_count}
use Rattle.call_cycles.proofs.SumLemmas.{sum_ext, sum_add, sum_none, sum_mono}
use Rattle.call_cycles.proofs.NumberingLemmas.{source_within, target_within, goes_down}
use Rattle.propagate.proofs.SumLemmas.{sum_by_key, term_le_sum, when_add}
use Rattle.propagate.proofs.CarryLemmas.{div_mono}
use Rattle.propagate.proofs.ConservationLemmas.{one_component, split_arc}
use Rattle.propagate.proofs.BoundLemmas.{when_fewer, function_leaves}
use Rattle.propagate.proofs.ExactLemmas.{chosen_times, entered, not_entered, calls_entering}

abs_times : (a b k : ℕ) → abs_diff a b * k ≡ abs_diff (a * k) (b * k)
abs_times a b k =
    let left = mul-sub k a b in
    let right = mul-sub k b a in
    let ca = mul_comm k a in
    let cb = mul_comm k b in
    let cl = mul_comm k (a - b) in
    let cr = mul_comm k (b - a) in
    let x : (a - b) * k ≡ a * k - b * k = sym cl ∙ left ∙ ap (λ (z : ℕ). z - k * b) ca ∙ ap (λ (z : ℕ). a * k - z) cb in
    let y : (b - a) * k ≡ b * k - a * k = sym cr ∙ right ∙ ap (λ (z : ℕ). z - k * a) cb ∙ ap (λ (z : ℕ). b * k - z) ca in
    distribute (a - b) (b - a) k (a * k - b * k) (b * k - a * k) x y
  where
    distribute : (p q k x y : ℕ) → p * k ≡ x → q * k ≡ y → (p + q) * k ≡ x + y
    distribute p q k x y is_x is_y = omega arith

abs_add : (a b c d : ℕ) → abs_diff (a + b) (c + d) ≤ abs_diff a c + abs_diff b d
abs_add a b c d = omega arith

abs_self : (a : ℕ) → abs_diff a a ≡ 0
abs_self a = omega arith

-- u and w are at most e apart
abs_through : (u w v e : ℕ) → u ≤ w + e → w ≤ u + e → abs_diff u v ≤ e + abs_diff w v
abs_through u w v e below above = omega arith

-- a part cut out at two running sums, and the exact one
cut_part : (time p n whole : ℕ) → 0 < whole → ((time * (p + n) / whole - time * p / whole) * whole ≤ time * n + whole) × (time * n ≤ (time * (p + n) / whole - time * p / whole) * whole + whole)
cut_part time p n whole some =
    let high = time * (p + n) / whole in
    let low = time * p / whole in
    let up : low ≤ high = div_mono (time * p) (time * (p + n)) whole (omega arith) in
    let h1 = mul-div-le (time * (p + n)) whole in
    let h2 = lt-div-mul-add {a = time * (p + n)} some in
    let l1 = mul-div-le (time * p) whole in
    let l2 = lt-div-mul-add {a = time * p} some in
    cut high low (high - low) (omega arith) h1 h2 l1 l2
  where
    cut : (high low part : ℕ) → part + low ≡ high → whole * high ≤ time * (p + n) → time * (p + n) < high * whole + whole → whole * low ≤ time * p → time * p < low * whole + whole
        → (part * whole ≤ time * n + whole) × (time * n ≤ part * whole + whole)
    cut high low part sum h1 h2 l1 l2 = let e = ap (λ (z : ℕ). z * whole) sum in (omega arith, omega arith)

part_apart : (time p n whole grain exact_time exact : ℕ) → 0 < whole → exact * whole ≡ exact_time * n
    → abs_diff ((time * (p + n) / whole - time * p / whole) * grain) exact * whole ≤ grain * whole + abs_diff (time * grain) exact_time * n
part_apart time p n whole grain exact_time exact some is =
    let part = time * (p + n) / whole - time * p / whole in
    let cut = cut_part time p n whole some in
    let low = mul-le-mul_right grain cut.0 in
    let high = mul-le-mul_right grain cut.1 in
    let left = abs_times (part * grain) exact whole in
    let right = abs_times (time * grain) exact_time n in
    let near = abs_through (part * grain * whole) (time * grain * n) (exact_time * n) (grain * whole) (not_above part low) (not_below part high) in
    rw (left, right, is) near
  where
    not_above : (part : ℕ) → part * whole * grain ≤ (time * n + whole) * grain → part * grain * whole ≤ time * grain * n + grain * whole
    not_above part le = omega arith

    not_below : (part : ℕ) → time * n * grain ≤ (part * whole + whole) * grain → time * grain * n ≤ part * grain * whole + grain * whole
    not_below part le = omega arith

-- ---- chosen terms of a sum

chosen_apart : (n : ℕ) (chosen : ℕ → Bool) (f h : ℕ → ℕ) → abs_diff (sum_below n (λ i. when (chosen i) (f i))) (sum_below n (λ i. when (chosen i) (h i))) ≤ sum_below n (λ i. when (chosen i) (abs_diff (f i) (h i)))
chosen_apart zero chosen f h = omega arith
chosen_apart (suc n) chosen f h =
    let ih = chosen_apart n chosen f h in
    let both = abs_add (sum_below n (λ i. when (chosen i) (f i))) (when (chosen n) (f n)) (sum_below n (λ i. when (chosen i) (h i))) (when (chosen n) (h n)) in
    let last = one (chosen n) (f n) (h n) in
    omega arith
  where
    one : (b : Bool) (x y : ℕ) → abs_diff (when b x) (when b y) ≡ when b (abs_diff x y)
    one true x y = refl
    one false x y = refl

when_mono : (b : Bool) (x y : ℕ) → (b ≡ true → x ≤ y) → when b x ≤ when b y
when_mono true x y le = le refl
when_mono false x y le = omega arith

chosen_mono : (n : ℕ) (chosen : ℕ → Bool) (f h : ℕ → ℕ) → ((i : ℕ) → i < n → chosen i ≡ true → f i ≤ h i) → sum_below n (λ i. when (chosen i) (f i)) ≤ sum_below n (λ i. when (chosen i) (h i))
chosen_mono n chosen f h le = sum_mono n _ _ (λ i below. when_mono (chosen i) (f i) (h i) (le i below))

chosen_add : (n : ℕ) (chosen : ℕ → Bool) (f h : ℕ → ℕ) → sum_below n (λ i. when (chosen i) (f i + h i)) ≡ sum_below n (λ i. when (chosen i) (f i)) + sum_below n (λ i. when (chosen i) (h i))
chosen_add n chosen f h = sum_ext n _ (λ i. when (chosen i) (f i) + when (chosen i) (h i)) (λ i below. when_add (chosen i) (f i) (h i)) ∙ sum_add n _ _

-- ---- arcs

module _ (g : GraphValue) (shares : List ℕ) (is : IsGraph g) (t : FlowValue) (flow : IsFlow g shares t) (x : ExactTimes) (exact : IsExactFlow g shares x) where
  -- how far the two parts that an arc carries are off, each and together
  abbrev self_off : ℕ → ℕ
  self_off i = abs_diff (slice_index t.arc_self i * x.grain) (x.arc_self i)

  abbrev child_off : ℕ → ℕ
  child_off i = abs_diff (slice_index t.arc_child i * x.grain) (x.arc_child i)

  abbrev off : ℕ → ℕ
  off i = self_off i + child_off i

  -- how far the child time of a component is off
  abbrev component_off : ℕ → ℕ
  component_off c = abs_diff (slice_index t.child c * x.grain) (x.child c)

  carried_apart : (time : ℕ → ℕ) (i v exact_time a : ℕ) → i < arc_count g → is_outside g i ≡ true → v ≡ part_of g time i → a * entering_of g (target_of g i) ≡ exact_time * (arc_at g i).count
      → abs_diff (v * x.grain) a * entering_of g (target_of g i) ≤ x.grain * entering_of g (target_of g i) + abs_diff (time (target_of g i) * x.grain) exact_time * (arc_at g i).count
  carried_apart time i v exact_time a below out is_v is_a = grind (arith, part_apart, entered)

  arc_apart : (i : ℕ) → i < arc_count g → is_outside g i ≡ true
      → off i * entering_of g (target_of g i) ≤ 2 * x.grain * entering_of g (target_of g i) + (arc_at g i).count * component_off (target_of g i)
  arc_apart i below out =
      let d = target_of g i in
      let self = carried_apart (slice_index t.self) i (slice_index t.arc_self i) (x.grain * self_in g shares d) (x.arc_self i) below out (flow.arc_self i below) (exact.arc_self i below out) in
      let child = carried_apart (slice_index t.child) i (slice_index t.arc_child i) (x.child d) (x.arc_child i) below out (flow.arc_child i below) (exact.arc_child i below out) in
      let same : slice_index t.self d * x.grain ≡ x.grain * self_in g shares d = ap (λ (z : ℕ). z * x.grain) (flow.self d (target_within g is i below)) ∙ mul_comm (self_in g shares d) x.grain in
      let none : abs_diff (slice_index t.self d * x.grain) (x.grain * self_in g shares d) ≡ 0 = ap (λ (z : ℕ). abs_diff z (x.grain * self_in g shares d)) same ∙ abs_self (x.grain * self_in g shares d) in
      sum_up (self_off i) (child_off i) (entering_of g d) x.grain _ (component_off d) (arc_at g i).count self child none
    where
      sum_up : (s k n m z e count : ℕ) → s * n ≤ m * n + z * count → k * n ≤ m * n + e * count → z ≡ 0 → (s + k) * n ≤ 2 * m * n + count * e
      sum_up s k n m z e count self child none = let gone : z * count ≡ 0 = rw none (omega arith) in omega arith

  -- what the arcs into a component are off by
  into_apart : (d : ℕ) → sum_below (arc_count g) (λ i. when (enters g d i) (off i)) ≤ sum_below (arc_count g) (λ i. when (enters g d i) (2 * x.grain)) + component_off d
  into_apart d =
      ⊎_elim
      (λ (some : 0 < entering_of g d). le_of_mul-le-mul_right (all some) some)
      (λ (none : entering_of g d ≤ 0). let nothing = sum_none m (λ i. when (enters g d i) (off i)) (λ i below. ap (λ (b : Bool). when b (off i)) (not_entered g is d none i below)) in omega arith)
      (cases_lt 0 (entering_of g d))
    where
      m : ℕ
      m = arc_count g

      each : (i : ℕ) → i < arc_count g → enters g d i ≡ true → off i * entering_of g d ≤ 2 * x.grain * entering_of g d + (arc_at g i).count * component_off d
      each i below taken = grind (arith, arc_apart)

      all : 0 < entering_of g d → sum_below m (λ i. when (enters g d i) (off i)) * entering_of g d ≤ (sum_below m (λ i. when (enters g d i) (2 * x.grain)) + component_off d) * entering_of g d
      all some =
          let left = chosen_times m (enters g d) off (entering_of g d) in
          let le = chosen_mono m (enters g d) _ _ each in
          let parts = chosen_add m (enters g d) (λ i. 2 * x.grain * entering_of g d) (λ i. (arc_at g i).count * component_off d) in
          let whole = chosen_times m (enters g d) (λ i. 2 * x.grain) (entering_of g d) in
          let shared = chosen_times m (enters g d) (λ i. (arc_at g i).count) (component_off d) in
          let here = ap (λ (z : ℕ). z * component_off d) (calls_entering g d) in
          omega arith

  -- what chosen arcs bring together is off by what they are off by
  brought_apart : (chosen : ℕ → Bool) (v a : ℕ) → v ≡ sum_below (arc_count g) (λ i. when (chosen i) (carried_by t i)) → a ≡ sum_below (arc_count g) (λ i. when (chosen i) (carried_exactly x i))
      → abs_diff (v * x.grain) a ≤ sum_below (arc_count g) (λ i. when (chosen i) (off i))
  brought_apart chosen v a is_v is_a =
      let m = arc_count g in
      let scaled = ap (λ (z : ℕ). z * x.grain) is_v ∙ chosen_times m chosen (carried_by t) x.grain in
      let near = chosen_apart m chosen (λ i. carried_by t i * x.grain) (carried_exactly x) in
      let le = chosen_mono m chosen (λ i. abs_diff (carried_by t i * x.grain) (carried_exactly x i)) off (λ i below taken. one (slice_index t.arc_self i) (slice_index t.arc_child i) (x.arc_self i) (x.arc_child i)) in
      rw (scaled, is_a) (omega arith)
    where
      one : (s k p q : ℕ) → abs_diff ((s + k) * x.grain) (p + q) ≤ abs_diff (s * x.grain) p + abs_diff (k * x.grain) q
      one s k p q = grind arith

  component_apart : (c : ℕ) → c < component_count g → component_off c ≤ sum_below (arc_count g) (λ i. when (leaves g c i) (off i))
  component_apart c below = brought_apart (leaves g c) (slice_index t.child c) (x.child c) (flow.child c below) (exact.child c below)

  -- so what comes into a set over arcs from outside it is off by two grains at most for each arc into one of its components
  pub handed_apart : (set : ℕ → Bool) → IsClosed g set → sum_below (arc_count g) (λ i. when (not (set (source_of g i)) && set (target_of g i)) (off i)) ≤ 2 * outside_count g * x.grain
  handed_apart set closed =
      let each = sum_mono n (λ d. when (set d) (sum_below m (λ i. when (enters g d i) (off i)))) (λ d. when (set d) (sum_below m (λ i. when (enters g d i) (2 * x.grain)) + sum_below m (λ i. when (leaves g d i) (off i)))) (λ d below. when_mono (set d) _ _ (λ inside. let i = into_apart d in let c = component_apart d below in omega arith)) in
      let parts = chosen_add n set (λ d. sum_below m (λ i. when (enters g d i) (2 * x.grain))) (λ d. sum_below m (λ i. when (leaves g d i) (off i))) in
      let into = sum_by_key m n set (is_outside g) (target_of g) off (target_within g is) in
      let from = sum_by_key m n set (is_outside g) (source_of g) off (source_within g is) in
      let fresh = sum_by_key m n set (is_outside g) (target_of g) (λ i. 2 * x.grain) (target_within g is) in
      let arcs = sum_ext m _ _ (λ i h. split_arc (is_outside g i) (set (source_of g i)) (set (target_of g i)) (off i) (closed i h) (λ inside. ap set (one_component g i inside))) in
      let arcs_two = sum_add m (λ i. when (is_outside g i && set (source_of g i)) (off i)) (λ i. when (not (set (source_of g i)) && set (target_of g i)) (off i)) in
      let fewer = sum_mono m (λ i. when (is_outside g i && set (target_of g i)) (2 * x.grain)) (λ i. when (is_outside g i) (1 * (2 * x.grain))) (λ i h. fewer_of (is_outside g i) (set (target_of g i))) in
      let most = chosen_times m (is_outside g) (λ i. 1) (2 * x.grain) in
      omega arith
    where
      m : ℕ
      m = arc_count g

      n : ℕ
      n = component_count g

      fewer_of : (a b : Bool) → when (a && b) (2 * x.grain) ≤ when a (1 * (2 * x.grain))
      fewer_of true true = omega arith
      fewer_of true false = omega arith
      fewer_of false b = omega arith

  -- the arcs that leave a component come into those before it
  leaving_apart : (c : ℕ) → sum_below (arc_count g) (λ i. when (leaves g c i) (off i)) ≤ 2 * outside_count g * x.grain
  leaving_apart c =
      let fewer = sum_mono (arc_count g) (λ i. when (leaves g c i) (off i)) (λ i. when (not (ltb (source_of g i) c) && ltb (target_of g i) c) (off i)) (λ i below. when_fewer (leaves g c i) _ (off i) (comes_in i below)) in
      let all = handed_apart (λ d. ltb d c) closed in
      omega arith
    where
      comes_in : (i : ℕ) → i < arc_count g → leaves g c i ≡ true → (not (ltb (source_of g i) c) && ltb (target_of g i) c) ≡ true
      comes_in i below taken = grind (arith, goes_down)

      closed : IsClosed g (λ d. ltb d c)
      closed i h inside = grind (arith, goes_down)

  arc_near : (i : ℕ) → i < arc_count g → is_outside g i ≡ true → off i ≤ 2 * outside_count g * x.grain
  arc_near i below out =
      grind (arith, term_le_sum (arc_count g) (λ j. when (leaves g (source_of g i) j) (off j)) i below, leaving_apart (source_of g i))

  member_near : (f : ℕ) → f < g.functions → IsNear g x (slice_index t.member_child f) (x.member_child f)
  member_near f below =
      let near = brought_apart (leaves_function g f) (slice_index t.member_child f) (x.member_child f) (flow.member_child f below) (exact.member_child f below) in
      let fewer = sum_mono (arc_count g) (λ i. when (leaves_function g f i) (off i)) (λ i. when (leaves g (component_of g f) i) (off i)) (λ i h. when_fewer (leaves_function g f i) (leaves g (component_of g f) i) (off i) (function_leaves g f i)) in
      let all = leaving_apart (component_of g f) in
      omega arith

  pub near_flow : IsNearFlow g t x
  near_flow = record {
    child = λ c below. let near = component_apart c below in let all = leaving_apart c in omega arith;
    arc_self = λ i below out. let near = arc_near i below out in omega arith;
    arc_child = λ i below out. let near = arc_near i below out in omega arith;
    member_child = member_near;
  }
