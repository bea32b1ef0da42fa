-- What arcs carry, as a part of their callees' times.
use Rattle.std.proofs.Common.{◌≡◌, ◌<◌, ℕ, length, get_or, refl, ap, sym, ◌∙◌, arith}
use Rattle.std.specs.Prelude.{slice_index}
use Rattle.std.proofs.lemmas.Bool.{eq-eqb, ne_eqb}
use Rattle.std.proofs.lemmas.Grind.{get_or_default_zero}
use Rattle.std.proofs.lemmas.List.FromFn.{length-map-range_with_len, get_or-map-range_with_len}
use Rattle.fraction128.specs.Fractions.{Fraction, fraction, lowest, product_of}
use Rattle.exact_flow.specs.Times.{ExactFlowValue, time_at}
use Rattle.exact_flow.specs.Fields.{FitsPart, FitsIn, IsHeld, carried_part, callee_in, self_in_callee, child_in_callee, part_in, times_of}
use Rattle.exact_flow.specs.declared.flows.ExactFlow.TheInside.{Inside}

pub none_carried : (time : Fraction) (calls entering : ℕ) → calls ≡ 0 → carried_part time calls entering ≡ fraction 0 1
unfolding carried_part
none_carried time calls entering none = rw (eq-eqb calls 0 none) refl

pub some_carried : (time : Fraction) (calls entering : ℕ) → 0 < calls → carried_part time calls entering ≡ product_of time (lowest calls entering)
unfolding carried_part
some_carried time calls entering some = rw (ne_eqb calls 0 (λ none. absurd (omega arith))) refl

pub fits_same : (t u : Fraction) (m n p q : ℕ) → t ≡ u → m ≡ n → p ≡ q → FitsPart u n q → FitsPart t m p
fits_same t u m n p q times calls entering fits = grind arith

-- d was read in the tables as the component that arc i enters
pub record IsRead (a : Inside) (i d : ℕ) : Type 0 where
  pub callee : d ≡ callee_in a i
  pub selves : d < length a.selves.items
  pub children : d < length a.children.items
  pub entering : d < length a.entering.items

pub callee_read : (a : Inside) → IsHeld a → (i d : ℕ) → i < length a.calls.items → d ≡ get_or a.callees.items i d → IsRead a i d
callee_read a held i d low is = grind (arith, get_or_default_zero)

module _ (a : Inside) (i d : ℕ) (is_callee : d ≡ callee_in a i) (time read : Fraction) (calls entering : ℕ) (is_time : read ≡ time) (is_calls : calls ≡ slice_index a.calls.items i) (is_entering : entering ≡ slice_index a.entering.items d) where
  entering_callee : entering ≡ slice_index a.entering.items (callee_in a i)
  entering_callee = is_entering ∙ ap (slice_index a.entering.items) is_callee

  -- a part of numbers that were read in the tables
  pub part_read : carried_part read calls entering ≡ part_in a time i
  part_read = λ j. carried_part (is_time j) (is_calls j) (entering_callee j)

  pub fits_read : FitsIn a time i → FitsPart read calls entering
  fits_read fits = fits_same read time calls (slice_index a.calls.items i) entering (slice_index a.entering.items (callee_in a i)) is_time is_calls entering_callee fits

module _ (a : Inside) (e : ExactFlowValue) (is : times_of a ≡ e) (i : ℕ) where
  abbrev n : ℕ
  n = length a.calls.items

  pub self_inside : i < length e.arc_self → i < n
  self_inside low = omega (arith, ap (λ (v : ExactFlowValue). length v.arc_self) is, length-map-range_with_len (λ k. part_in a (self_in_callee a k) k) 0 n)

  pub child_inside : i < length e.arc_child → i < n
  child_inside low = omega (arith, ap (λ (v : ExactFlowValue). length v.arc_child) is, length-map-range_with_len (λ k. part_in a (child_in_callee a k) k) 0 n)

  pub self_at : i < n → part_in a (self_in_callee a i) i ≡ time_at e.arc_self i
  self_at low = sym (get_or-map-range_with_len (λ k. part_in a (self_in_callee a k) k) 0 n i i (fraction 0 1) low (omega arith)) ∙ ap (λ (v : ExactFlowValue). time_at v.arc_self i) is

  pub child_at : i < n → part_in a (child_in_callee a i) i ≡ time_at e.arc_child i
  child_at low = sym (get_or-map-range_with_len (λ k. part_in a (child_in_callee a k) k) 0 n i i (fraction 0 1) low (omega arith)) ∙ ap (λ (v : ExactFlowValue). time_at v.arc_child i) is
