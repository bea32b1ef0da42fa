-- Kept histograms are found by bisection.
use Rattle.std.proofs.Common.{◌≡◌, ℕ, zero, suc, ◌<◌, ◌≤◌, Bool, true, false, ltb, eqb, slice_get, nat_le, nat_lt, ◌&&◌, not, List, [], ◌∷◌, length, Option, Some, None, refl, ap, ◌∙◌, if◌then◌else◌, arith}
use Rattle.std.specs.List.{AllByRecursion}
use Rattle.std.specs.List.Sorted.{IsNonDecreasingBy, IsPartitionedBy, IsPartitionPoint}
use Rattle.std.proofs.lemmas.Bool.{le-ltb, lt-ltb, ltb-false, leb-true, leb-false, eqb-true, and_left, and_right, and_parts}
use Rattle.std.proofs.lemmas.List.Elements.{All-from_recursion}
use Rattle.std.proofs.lemmas.List.Sorted.{IsPartitionedBy-leb, IsPartitionedBy-ltb}
use Rattle.gmon_data.specs.declared.hist.Hist.{Hist}
use Rattle.gmon_data.specs.declared.hist.HistRange.{HistRange}
use Rattle.gmon_data.specs.declared.refusal.Unlike.{Unlike}
use Rattle.gmon_data.specs.declared.refusal.Unlike.TheVariants.{Range}
use Rattle.gmon_data.proofs.HistLemmas.{higher, some_same}
use Rattle.gmon_data.specs.Hists.{place_of, range_of, range_conflict, same_range, IsKept, IsApart}

-- those behind one lie above it
lows_rise : (hs : List Hist) → AllByRecursion IsKept hs → IsApart hs → IsNonDecreasingBy (λ (h : Hist). h.low) hs
lows_rise [] kept apart i j d le lt = absurd (let f : suc j ≤ 0 = lt in omega (arith, f))
lows_rise (h ∷ hs) kept apart zero zero d le lt = omega arith
lows_rise (h ∷ hs) kept apart zero (suc j) d le lt =
    let above = All-from_recursion (λ (k : Hist). h.high ≤ k.low) hs apart.0 j d (omega (arith, lt)) in
    omega (arith, above, kept.0.range)
lows_rise (h ∷ hs) kept apart (suc i) zero d le lt = absurd (let f : suc i ≤ 0 = le in omega (arith, f))
lows_rise (h ∷ hs) kept apart (suc i) (suc j) d le lt = lows_rise hs kept.1 apart.1 i j d (omega (arith, le)) (omega (arith, lt))

highs_rise : (hs : List Hist) → AllByRecursion IsKept hs → IsApart hs → IsNonDecreasingBy (λ (h : Hist). h.high) hs
highs_rise [] kept apart i j d le lt = absurd (let f : suc j ≤ 0 = lt in omega (arith, f))
highs_rise (h ∷ hs) kept apart zero zero d le lt = omega arith
highs_rise (h ∷ hs) kept apart zero (suc j) d le lt =
    let above = All-from_recursion (λ (k : Hist). h.high ≤ k.low) hs apart.0 j d (omega (arith, lt)) in
    let range = (All-from_recursion IsKept hs kept.1 j d (omega (arith, lt))).range in
    omega (arith, above, range)
highs_rise (h ∷ hs) kept apart (suc i) zero d le lt = absurd (let f : suc i ≤ 0 = le in omega (arith, f))
highs_rise (h ∷ hs) kept apart (suc i) (suc j) d le lt = highs_rise hs kept.1 apart.1 i j d (omega (arith, le)) (omega (arith, lt))

pub ended_first : (hs : List Hist) (address : ℕ) → AllByRecursion IsKept hs → IsApart hs → IsPartitionedBy (λ (h : Hist). nat_le h.high address) hs
ended_first hs address kept apart = IsPartitionedBy-leb (λ (h : Hist). h.high) hs address (highs_rise hs kept apart)

pub lower_first : (hs : List Hist) (low : ℕ) → AllByRecursion IsKept hs → IsApart hs → IsPartitionedBy (λ (h : Hist). nat_lt h.low low) hs
lower_first hs low kept apart = IsPartitionedBy-ltb (λ (h : Hist). h.low) hs low (lows_rise hs kept apart)

-- the point between those that lie lower and the others
pub point_is_place : (hs : List Hist) (low i : ℕ) → i ≤ length hs → IsPartitionPoint (λ (h : Hist). nat_lt h.low low ≡ true) (λ (h : Hist). nat_lt h.low low ≡ false) hs i → i ≡ place_of low hs
point_is_place [] low zero le point = refl
point_is_place [] low (suc i) le point = absurd (let f : suc i ≤ 0 = le in omega (arith, f))
point_is_place (h ∷ hs) low zero le point = rw (point.1 0 h (omega arith) (omega arith)) refl
point_is_place (h ∷ hs) low (suc i) le point =
    let rest = point_is_place hs low i (omega (arith, le))
    ((λ k d from below. point.0 (suc k) d (omega arith) (omega (arith, below))), (λ k d from below. point.1 (suc k) d (omega (arith, from)) (omega (arith, below)))) in
    rw (point.0 0 h (omega arith) (omega arith)) (ap suc rest)

-- ---- the only one that can conflict

above_none : (hs : List Hist) (new : HistRange) → AllByRecursion (λ k. new.high ≤ k.low) hs → range_conflict hs new ≡ None
above_none [] new above = refl
above_none (h ∷ hs) new above = search (and_left, ltb, le-ltb, above_none hs new above.1)

-- what is said of the first one that ends above the new low address
abbrev pub conflict_at_first : Hist → HistRange → Option Unlike
conflict_at_first k new = if nat_lt k.low new.high && not (same_range (range_of k) new) then Some (Range (range_of k) new) else None

first_decides : (k : Hist) (ks : List Hist) (new : HistRange) → IsKept k → AllByRecursion (λ x. k.high ≤ x.low) ks → nat_le k.high new.low ≡ false
    → range_conflict (k ∷ ks) new ≡ conflict_at_first k new
first_decides k ks new kept above ends = by (ltb k.low new.high) (same_range (range_of k) new) refl refl
  where
    late : ltb new.low k.high ≡ true
    late = lt-ltb new.low k.high (leb-false k.high new.low ends)

    by : (b e : Bool) → ltb k.low new.high ≡ b → same_range (range_of k) new ≡ e → range_conflict (k ∷ ks) new ≡ conflict_at_first k new
    by true false lt same = rw (lt, late, same) refl
    by true true lt same =
        let one = and_parts (eqb k.low new.low && eqb k.high new.high) _ same in
        let two = and_parts (eqb k.low new.low) (eqb k.high new.high) one.0 in
        let high : new.high ≤ k.high = omega (arith, eqb-true k.high new.high two.1) in
        rw (lt, late, same) (above_none ks new (higher new.high k.high ks high above))
    by false e lt same = rw lt (above_none ks new (higher new.high k.high ks (omega (arith, ltb-false k.low new.high lt, kept.range)) above))

ended_passed : (h : Hist) (hs : List Hist) (new : HistRange) → nat_le h.high new.low ≡ true → range_conflict (h ∷ hs) new ≡ range_conflict hs new
ended_passed h hs new ends = search (and_right, ltb, le-ltb, leb-true)

module _ (new : HistRange) where
  abbrev ended : Hist → Bool
  ended h = nat_le h.high new.low

  later : (h : Hist) (hs : List Hist) (i : ℕ) → IsPartitionPoint (λ h. ended h ≡ true) (λ h. ended h ≡ false) (h ∷ hs) (suc i) → IsPartitionPoint (λ h. ended h ≡ true) (λ h. ended h ≡ false) hs i
  later h hs i point = ((λ k d from below. point.0 (suc k) d (omega arith) (omega (arith, below))), (λ k d from below. point.1 (suc k) d (omega (arith, from)) (omega (arith, below))))

  pub first_late_decides : (hs : List Hist) (i : ℕ) (k : Hist) → AllByRecursion IsKept hs → IsApart hs → IsPartitionPoint (λ h. ended h ≡ true) (λ h. ended h ≡ false) hs i
      → slice_get hs i ≡ Some k → range_conflict hs new ≡ conflict_at_first k new
  first_late_decides [] i k kept apart point at = absurd cc
  first_late_decides (h ∷ hs) zero k kept apart point at =
      first_decides h hs new kept.0 apart.0 (point.1 0 h (omega arith) (omega arith)) ∙ ap (λ x. conflict_at_first x new) (some_same h k at)
  first_late_decides (h ∷ hs) (suc i) k kept apart point at =
      ended_passed h hs new (point.0 0 h (omega arith) (omega arith)) ∙ first_late_decides hs i k kept.1 apart.1 (later h hs i point) at

  pub none_is_late : (hs : List Hist) (i : ℕ) → IsPartitionPoint (λ h. ended h ≡ true) (λ h. ended h ≡ false) hs i → length hs ≤ i → range_conflict hs new ≡ None
  none_is_late [] i point le = refl
  none_is_late (h ∷ hs) zero point le = absurd (let f : suc (length hs) ≤ 0 = le in omega (arith, f))
  none_is_late (h ∷ hs) (suc i) point le =
      ended_passed h hs new (point.0 0 h (omega arith) (omega arith)) ∙ none_is_late hs i (later h hs i point) (omega (arith, le))

-- ---- what the test of the found one says

module _ (k : Hist) (r new : HistRange) (is : r ≡ range_of k) where
  abbrev differs : HistRange → Bool
  differs x = not (eqb x.low new.low && (eqb x.high new.high && eqb x.count new.count))

  pub differing_told : r.low < new.high → true ≡ differs r → Some (Range r new) ≡ conflict_at_first k new
  differing_told lt e = grind arith

  pub same_told : false ≡ differs r → None ≡ conflict_at_first k new
  same_told e = by (ltb k.low new.high)
    where
      by : (b : Bool) → None ≡ (if b && not (same_range (range_of k) new) then Some (Range (range_of k) new) else None)
      by b = grind arith

  pub above_told : new.high ≤ r.low → None ≡ conflict_at_first k new
  above_told le = grind arith
