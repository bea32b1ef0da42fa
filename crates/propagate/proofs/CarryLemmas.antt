-- What the arcs that enter a component carry: together all of its time.
use Rattle.std.proofs.Common.{◌≡◌, ◌≢◌, ◌≤◌, ℕ, zero, suc, ◌+◌, ◌-◌, ◌*◌, ◌/◌, Bool, true, false, not, ◌&&◌, ap, sym, ◌∙◌, subst, add-zero, ⊎_elim, arith}
use Rattle.std.specs.Prelude.{◌==◌}
use Rattle.std.proofs.Math.Nat.{zero-div}
use Rattle.std.proofs.lemmas.Bool.{cases_eq, ne_eqb}
use Rattle.call_cycles.specs.Sums.{sum_below, when}
use Rattle.call_cycles.specs.Graph.{GraphValue, arc_at, arc_count, is_outside, enters, target_of, calls_into, entering_of}
use Rattle.call_cycles.specs.Flow.{is_root, part_of}

pub div_mono : (a b n : ℕ) → a ≤ b → a / n ≤ b / n
div_mono a b n le = grind arith

-- one more arc, which goes to t with x calls
still : (a b n : ℕ) → a * b / n + 0 ≡ a * (b + 0) / n
still a b n = simp add-zero

module _ (t x : ℕ) (time calls whole : ℕ → ℕ) where
  abbrev Steps : Bool → ℕ → Type 0
  Steps o d =
      time d * calls d / whole d + when (o && t == d) (when o (time t * (calls t + when (o && t == t) x) / whole t - time t * calls t / whole t))
      ≡ time d * (calls d + when (o && t == d) x) / whole d

  step_here : Steps true t
  step_here = grind (arith, div_mono)

  step_other : (d : ℕ) → t ≢ d → Steps true d
  step_other d apart = rw (ne_eqb t d apart) (still (time d) (calls d) (whole d))

  step_inside : (d : ℕ) → Steps false d
  step_inside d = still (time d) (calls d) (whole d)

  step_of : (o : Bool) (d : ℕ) → Steps o d
  step_of false d = step_inside d
  step_of true d = ⊎_elim (λ (at : t ≡ d). subst (Steps true) at step_here) (step_other d) (cases_eq t d)

-- a component's time is cut at the calls of the arcs that enter it
pub carried_below : (g : GraphValue) (time : ℕ → ℕ) (d j : ℕ) → sum_below j (λ i. when (enters g d i) (part_of g time i)) ≡ time d * calls_into g d j / entering_of g d
carried_below g time d zero = sym (ap (λ (n : ℕ). n / entering_of g d) (omega arith) ∙ zero-div (entering_of g d))
carried_below g time d (suc j) =
    let ih = carried_below g time d j in
    let step = step_of (target_of g j) (arc_at g j).count time (λ c. calls_into g c j) (entering_of g) (is_outside g j) d in
    ap (λ (n : ℕ). n + when (enters g d j) (part_of g time j)) ih ∙ step

cut_whole : (t n : ℕ) → t * n / n ≡ when (not (n == 0)) t
cut_whole t n = grind arith

-- nothing where no call enters, else all
pub carried_into : (g : GraphValue) (time : ℕ → ℕ) (d : ℕ) → sum_below (arc_count g) (λ i. when (enters g d i) (part_of g time i)) ≡ when (not (is_root g d)) (time d)
unfolding entering_of
carried_into g time d = carried_below g time d (arc_count g) ∙ cut_whole (time d) (entering_of g d)
