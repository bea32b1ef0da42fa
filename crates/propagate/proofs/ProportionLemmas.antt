-- What arcs carry, beside the exact parts.
use Rattle.std.proofs.Common.{◌≡◌, ◌≢◌, ◌≤◌, ◌<◌, ℕ, ◌+◌, ◌-◌, ◌*◌, ◌/◌, not, Bool, true, List, ap, sym, ◌∙◌, subst, arith}
use Rattle.std.specs.Prelude.{slice_index}
use Rattle.std.proofs.Math.Nat.{mul-div-le, lt-div-mul-add, mul-le-mul_left}
use Rattle.std.proofs.lemmas.Bool.{eq-eqb, ne_eqb}
use Rattle.call_cycles.specs.Sums.{when}
use Rattle.call_cycles.specs.Graph.{GraphValue, IsGraph, arc_at, arc_count, enters, entering_of, is_outside, target_of}
use Rattle.call_cycles.specs.Flow.{FlowValue, IsFlow, part_of}
use Rattle.call_cycles.proofs.SumLemmas.{sum_ext}
use Rattle.propagate.specs.Proportion.{IsInProportion, carried_to}
use Rattle.propagate.proofs.CarryLemmas.{div_mono, carried_into}
use Rattle.propagate.proofs.ExactLemmas.{entered}

-- what lies between two cuts
cut_near : (time before calls all : ℕ) → 0 < all → IsInProportion (time * (before + calls) / all - time * before / all) time calls all
cut_near time before calls all some = near (time * (before + calls) / all) (time * before / all) (time * before) (time * calls) up high low above below
  where
    up : time * before / all ≤ time * (before + calls) / all
    up = div_mono (time * before) (time * (before + calls)) all (mul-le-mul_left time (omega arith))

    high : time * (before + calls) / all * all ≤ time * before + time * calls
    high = let le = mul-div-le (time * (before + calls)) all in omega arith

    low : time * before / all * all ≤ time * before
    low = let le = mul-div-le (time * before) all in omega arith

    above : time * before + time * calls < time * (before + calls) / all * all + all
    above = let lt = lt-div-mul-add {a = time * (before + calls)} some in omega arith

    below : time * before < time * before / all * all + all
    below = lt-div-mul-add {a = time * before} some

    near : (p q x y : ℕ) → q ≤ p → p * all ≤ x + y → q * all ≤ x → x + y < p * all + all → x < q * all + all → ((p - q) * all < y + all) × (y < (p - q + 1) * all)
    near p q x y le a b c d = apart (p - q) (omega arith)
      where
        apart : (k : ℕ) → p ≡ q + k → (k * all < y + all) × (y < (k + 1) * all)
        apart k is =
            let e : p * all ≡ q * all + k * all = ap (λ (z : ℕ). z * all) is ∙ omega arith in
            (omega arith, omega arith)

part_near : (g : GraphValue) → IsGraph g → (time : ℕ → ℕ) (i : ℕ) → i < arc_count g → is_outside g i ≡ true → IsInProportion (part_of g time i) (time (target_of g i)) (arc_at g i).count (entering_of g (target_of g i))
part_near g is time i low out = grind (arith, eq-eqb, cut_near, entered)

module _ (g : GraphValue) (shares : List ℕ) (t : FlowValue) (is : IsGraph g) (flow : IsFlow g shares t) where
  pub parts_near : (i : ℕ) → i < arc_count g → is_outside g i ≡ true
      → IsInProportion (slice_index t.arc_self i) (slice_index t.self (target_of g i)) (arc_at g i).count (entering_of g (target_of g i))
      × IsInProportion (slice_index t.arc_child i) (slice_index t.child (target_of g i)) (arc_at g i).count (entering_of g (target_of g i))
  parts_near i low out = (
    subst (λ (p : ℕ). IsInProportion p (slice_index t.self (target_of g i)) (arc_at g i).count (entering_of g (target_of g i))) (sym (flow.arc_self i low)) (part_near g is (slice_index t.self) i low out),
    subst (λ (p : ℕ). IsInProportion p (slice_index t.child (target_of g i)) (arc_at g i).count (entering_of g (target_of g i))) (sym (flow.arc_child i low)) (part_near g is (slice_index t.child) i low out),
  )

  all_carried : (time carried : ℕ → ℕ) (d : ℕ) → entering_of g d ≢ 0 → ((i : ℕ) → i < arc_count g → carried i ≡ part_of g time i) → carried_to g carried d ≡ time d
  all_carried time carried d some each =
      sum_ext (arc_count g) _ _ (λ i low. ap (when (enters g d i)) (each i low))
      ∙ carried_into g time d
      ∙ ap (λ (b : Bool). when (not b) (time d)) (ne_eqb (entering_of g d) 0 some)

  pub parts_all : (d : ℕ) → entering_of g d ≢ 0 → (carried_to g (slice_index t.arc_self) d ≡ slice_index t.self d) × (carried_to g (slice_index t.arc_child) d ≡ slice_index t.child d)
  parts_all d some = (all_carried (slice_index t.self) (slice_index t.arc_self) d some flow.arc_self, all_carried (slice_index t.child) (slice_index t.arc_child) d some flow.arc_child)
