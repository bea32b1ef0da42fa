-- What the fields of an exact flow stand for, and what is true of them.
-- Only private functions and invariants speak of it.
use Rattle.std.specs.Prelude.{◌≡◌, ◌<◌, ◌==◌, ℕ, length, map, slice_index, if◌then◌else◌}
use Rattle.call_cycles.specs.Sums.{numbers_below}
use Rattle.fraction128.specs.Fractions.{Fraction, fraction, lowest, product_of, FitsProduct}
use Rattle.fraction128.specs.Values.{value_of}
use Rattle.exact_flow.specs.Times.{ExactFlowValue, time_at}
use Rattle.exact_flow.specs.declared.flows.ExactFlow.TheInside.{Inside}

-- what an arc carries of a time of the component that it enters, with so many of the calls that enter it; nothing without calls
unfoldable pub carried_part : Fraction → ℕ → ℕ → Fraction
carried_part time calls entering = if calls == 0 then fraction 0 1 else product_of time (lowest calls entering)

-- it has room
pub record FitsPart (time : Fraction) (calls entering : ℕ) : Type 0 where
  pub entered : 0 < calls → 0 < entering
  pub fits : 0 < calls → FitsProduct time (lowest calls entering)

-- the component that arc i enters, and its two times
abbrev pub callee_in : Inside → ℕ → ℕ
callee_in a i = slice_index a.callees.items i

abbrev pub self_in_callee : Inside → ℕ → Fraction
self_in_callee a i = fraction (slice_index a.selves.items (callee_in a i)) 1

abbrev pub child_in_callee : Inside → ℕ → Fraction
child_in_callee a i = time_at (map value_of a.children.items) (callee_in a i)

-- what arc i carries of one of them
abbrev pub part_in : Inside → Fraction → ℕ → Fraction
part_in a time i = carried_part time (slice_index a.calls.items i) (slice_index a.entering.items (callee_in a i))

abbrev pub FitsIn : Inside → Fraction → ℕ → Type 0
FitsIn a time i = FitsPart time (slice_index a.calls.items i) (slice_index a.entering.items (callee_in a i))

abbrev pub times_of : Inside → ExactFlowValue
times_of a = record {
  self = a.selves.items;
  child = map value_of a.children.items;
  arc_self = map (λ i. part_in a (self_in_callee a i) i) (numbers_below (length a.calls.items));
  arc_child = map (λ i. part_in a (child_in_callee a i) i) (numbers_below (length a.calls.items));
  outside = a.outside.items;
}

pub record IsHeld (a : Inside) : Type 0 where
  pub children : length a.children.items ≡ length a.selves.items
  pub entering : length a.entering.items ≡ length a.selves.items
  pub callees : length a.callees.items ≡ length a.calls.items
  pub within : (i : ℕ) → i < length a.calls.items → callee_in a i < length a.selves.items
  pub fits_self : (i : ℕ) → i < length a.calls.items → FitsIn a (self_in_callee a i) i
  pub fits_child : (i : ℕ) → i < length a.calls.items → FitsIn a (child_in_callee a i) i
