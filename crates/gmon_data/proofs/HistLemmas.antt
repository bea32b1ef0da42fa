-- A histogram takes its place.
use Rattle.std.proofs.Common.{◌≡◌, ◌↔◌, ℕ, zero, suc, ◌<◌, ◌≤◌, Bool, true, false, ltb, eqb, List, [], ◌∷◌, length, sum, drop, set, insert, slice_get, get_or, fold, Option, Some, None, unwrap_or, refl, sym, ap, ◌∙◌, if◌then◌else◌, not, ◌&&◌, ◌+◌, add-one, arith}
use Rattle.std.proofs.lemmas.Bool.{lt-ltb, ltb-false, eqb-true}
use Rattle.gmon_data.specs.declared.hist.Hist.{Hist}
use Rattle.gmon_data.specs.declared.hist.HistRange.{HistRange}
use Rattle.gmon_data.specs.declared.refusal.Unlike.{Unlike}
use Rattle.std.specs.List.{sum_by, AllByRecursion}
use Rattle.std.specs.Option.{option_or}
use Rattle.std.proofs.lemmas.List.Sums.{sum_by-cons}
use Rattle.gmon_data.proofs.CounterLemmas.{length-pointwise, sum-pointwise}
use Rattle.gmon_data.specs.Hists.{count_at, place_of, put_hist, hist_sum, pointwise_sum, samples_of, range_of, range_conflict, overlap, same_range, kept_unit, IsKept, IsApart, IsUnitOf}
use Rattle.gp_base.specs.declared.records.Unit as units

pub place-within : (low : ℕ) (hs : List Hist) → place_of low hs ≤ length hs
place-within low [] = omega arith
place-within low (k ∷ ks) = by (ltb k.low low) (place-within low ks)
  where
    by : (b : Bool) → place_of low ks ≤ length ks → (if b then suc (place_of low ks) else 0) ≤ length (k ∷ ks)
    by b h = grind arith

pub some_same : {A : Type 0} (x y : A) → Some x ≡ Some y → x ≡ y
some_same x y e = cc

-- where it is the low address of the kept one there, they are added up
pub put-old : (h k : Hist) (hs : List Hist) (i : ℕ) → i ≡ place_of h.low hs → slice_get hs i ≡ Some k → k.low ≡ h.low → set hs i (hist_sum k h) ≡ put_hist h hs
put-old h k [] i is at same = absurd cc
put-old h k (x ∷ xs) i is at same = by (ltb x.low h.low) (eqb x.low h.low) refl refl i is at (put-old h k xs)
  where
    by : (b e : Bool) → ltb x.low h.low ≡ b → eqb x.low h.low ≡ e → (i : ℕ) → i ≡ (if b then suc (place_of h.low xs) else 0) → slice_get (x ∷ xs) i ≡ Some k
        → ((i : ℕ) → i ≡ place_of h.low xs → slice_get xs i ≡ Some k → k.low ≡ h.low → set xs i (hist_sum k h) ≡ put_hist h xs)
        → set (x ∷ xs) i (hist_sum k h) ≡ (if b then x ∷ put_hist h xs else (if e then hist_sum x h ∷ xs else h ∷ x ∷ xs))
    by b e lt eq i is at others = grind arith

-- and else it goes between
pub put-new : (h : Hist) (hs : List Hist) (i : ℕ) → i ≡ place_of h.low hs → ((k : Hist) → slice_get hs i ≡ Some k → eqb k.low h.low ≡ false) → insert hs i h ≡ put_hist h hs
put-new h [] zero is other = refl
put-new h [] (suc i) is other = absurd cc
put-new h (x ∷ xs) i is other = by (ltb x.low h.low) i is other (put-new h xs)
  where
    by : (b : Bool) (i : ℕ) → i ≡ (if b then suc (place_of h.low xs) else 0) → ((k : Hist) → slice_get (x ∷ xs) i ≡ Some k → eqb k.low h.low ≡ false)
        → ((i : ℕ) → i ≡ place_of h.low xs → ((k : Hist) → slice_get xs i ≡ Some k → eqb k.low h.low ≡ false) → insert xs i h ≡ put_hist h xs)
        → insert (x ∷ xs) i h ≡ (if b then x ∷ put_hist h xs else (if eqb x.low h.low then hist_sum x h ∷ xs else h ∷ x ∷ xs))
    by b i is other others = grind arith

pub none_past_end : (hs : List Hist) (i low : ℕ) → length hs ≤ i → (k : Hist) → slice_get hs i ≡ Some k → eqb k.low low ≡ false
none_past_end [] i low le k is = absurd cc
none_past_end (x ∷ xs) zero low le k is = absurd (let f : suc (length xs) ≤ 0 = le in omega (arith, f))
none_past_end (x ∷ xs) (suc i) low le k is = none_past_end xs i low (omega (arith, le)) k is

-- ---- what putting keeps

sum_put : (f : Hist → ℕ) (n : ℕ) (h : Hist) (hs : List Hist) → f h ≡ n → ((k : Hist) → f (hist_sum k h) ≡ f k + n) → sum_by f (put_hist h hs) ≡ sum_by f hs + n
sum_put f n h [] mine more = sum_by-cons f h [] ∙ omega (arith, mine)
sum_put f n h (k ∷ ks) mine more = by (ltb k.low h.low) (eqb k.low h.low) (sum_put f n h ks mine more)
  where
    by : (b e : Bool) → sum_by f (put_hist h ks) ≡ sum_by f ks + n → sum_by f (if b then k ∷ put_hist h ks else (if e then hist_sum k h ∷ ks else h ∷ k ∷ ks)) ≡ sum_by f (k ∷ ks) + n
    by true e others = omega (arith, others, sum_by-cons f k (put_hist h ks), sum_by-cons f k ks)
    by false true others = omega (arith, more k, sum_by-cons f (hist_sum k h) ks, sum_by-cons f k ks)
    by false false others = omega (arith, mine, sum_by-cons f h (k ∷ ks), sum_by-cons f k ks)

pub samples-put : (h : Hist) (hs : List Hist) → samples_of (put_hist h hs) ≡ samples_of hs + sum h.counters
samples-put h hs = sum_put (λ h. sum h.counters) (sum h.counters) h hs refl (λ k. sum-pointwise k.counters h.counters)

longer : (xs ys : List ℕ) → length ys ≤ length (pointwise_sum xs ys)
longer [] ys = omega arith
longer (x ∷ xs) [] = omega arith
longer (x ∷ xs) (y ∷ ys) = omega (arith, longer xs ys)

pub counters-put : (h : Hist) (hs : List Hist) → length h.counters ≤ sum_by (λ k. length k.counters) (put_hist h hs)
counters-put h [] = let e = sum_by-cons (λ (k : Hist). length k.counters) h [] in omega (arith, e)
counters-put h (k ∷ ks) = by (ltb k.low h.low) (eqb k.low h.low) (counters-put h ks)
  where
    by : (b e : Bool) → length h.counters ≤ sum_by (λ k. length k.counters) (put_hist h ks) → length h.counters ≤ sum_by (λ k. length k.counters) (if b then k ∷ put_hist h ks else (if e then hist_sum k h ∷ ks else h ∷ k ∷ ks))
    by true e others = omega (arith, others, sum_by-cons (λ (k : Hist). length k.counters) k (put_hist h ks))
    by false true others = omega (arith, longer k.counters h.counters, sum_by-cons (λ (k : Hist). length k.counters) (hist_sum k h) ks)
    by false false others = omega (arith, sum_by-cons (λ (k : Hist). length k.counters) h (k ∷ ks))

-- each has a counter
pub hists-within : (hs : List Hist) → AllByRecursion IsKept hs → length hs ≤ sum_by (λ k. length k.counters) hs
hists-within [] kept = omega arith
hists-within (k ∷ ks) kept = omega (arith, kept.0.some, hists-within ks kept.1, sum_by-cons (λ (k : Hist). length k.counters) k ks)

-- the samples from one place on
pub samples-drop : (hs : List Hist) (i : ℕ) (h : Hist) → slice_get hs i ≡ Some h → samples_of (drop i hs) ≡ sum h.counters + samples_of (drop (i + 1) hs)
samples-drop [] i h at = absurd cc
samples-drop (k ∷ ks) zero h at =
    let same : sum k.counters ≡ sum h.counters = ap (λ (z : Hist). sum z.counters) (some_same k h at) in
    let g : samples_of (k ∷ ks) ≡ sum h.counters + samples_of ks = omega (arith, same, sum_by-cons (λ (z : Hist). sum z.counters) k ks) in g
samples-drop (k ∷ ks) (suc i) h at = search (sum, add-one, samples-drop ks i h at)

pub samples-at : (hs : List Hist) (i : ℕ) (k : Hist) → slice_get hs i ≡ Some k → sum k.counters ≤ samples_of hs
samples-at [] i k at = absurd cc
samples-at (x ∷ xs) zero k at = omega (arith, ap (λ (z : Hist). sum z.counters) (some_same x k at), sum_by-cons (λ (z : Hist). sum z.counters) x xs)
samples-at (x ∷ xs) (suc i) k at = omega (arith, samples-at xs i k at, sum_by-cons (λ (z : Hist). sum z.counters) x xs)

pub all_kept : (h : Hist) (hs : List Hist) → IsKept h → AllByRecursion IsKept hs → AllByRecursion IsKept (put_hist h hs)
all_kept h [] mine all = (mine, tt)
all_kept h (k ∷ ks) mine all = by (ltb k.low h.low) (eqb k.low h.low) (all_kept h ks mine all.1)
  where
    by : (b e : Bool) → AllByRecursion IsKept (put_hist h ks) → AllByRecursion IsKept (if b then k ∷ put_hist h ks else (if e then hist_sum k h ∷ ks else h ∷ k ∷ ks))
    by b e others = grind (arith, longer)

-- ---- what it means that nothing is unlike

pub none_of : (b : Bool) (x : Unlike) (o : Option Unlike) → (if b then Some x else o) ≡ None → (b ≡ false) × (o ≡ None)
none_of b x o e = grind arith

pub first_none : (o p : Option Unlike) → option_or o p ≡ None → o ≡ None
first_none o p e = grind arith

-- two ranges with one low address that don't differ are one
pub one_range : (a b : HistRange) → a.low < a.high → b.low < b.high → a.low ≡ b.low → (overlap a b && not (same_range a b)) ≡ false → a ≡ b
one_range a b some some' low none = by (same_range a b) refl
  where
    late : overlap a b ≡ true
    late = grind arith

    by : (s : Bool) → same_range a b ≡ s → a ≡ b
    by s is = grind arith

pub range-sum : (k h : Hist) → length k.counters ≡ length h.counters → range_of (hist_sum k h) ≡ range_of k
range-sum k h same = let count = length-pointwise k.counters h.counters same in λ i. record { low = k.low; high = k.high; count = count i }

pub alike_counters : (h : Hist) (hs : List Hist) → range_conflict hs (range_of h) ≡ None → AllByRecursion IsKept hs → h.low < h.high
    → (i : ℕ) (k : Hist) → slice_get hs i ≡ Some k → k.low ≡ h.low → length k.counters ≡ length h.counters
alike_counters h [] none all some i k at low = absurd cc
alike_counters h (x ∷ xs) none all some zero k at low = grind arith
alike_counters h (x ∷ xs) none all some (suc i) k at low =
    let parts = none_of (overlap (range_of x) (range_of h) && not (same_range (range_of x) (range_of h))) _ _ none in
    alike_counters h xs parts.1 all.1 some i k at low

-- ---- apart

no_overlap : (a b : HistRange) → (overlap a b && not (same_range a b)) ≡ false → eqb a.low b.low ≡ false → overlap a b ≡ false
no_overlap a b none differ =
    let other : same_range a b ≡ false = ap (λ x. (x && eqb a.high b.high) && eqb a.count b.count) differ in
    sym (and_true (overlap a b)) ∙ sym (ap (λ x. overlap a b && not x) other) ∙ none
  where
    and_true : (x : Bool) → (x && true) ≡ x
    and_true x = grind arith

apart_high : (a b : HistRange) → overlap a b ≡ false → b.low < a.high → b.high ≤ a.low
apart_high a b none lt = ltb-false a.low b.high (sym (and_true (ltb a.low b.high)) ∙ ap (λ x. ltb a.low b.high && x) (sym (lt-ltb b.low a.high lt)) ∙ none)
  where
    and_true : (x : Bool) → (x && true) ≡ x
    and_true x = grind arith

pub above_put : (n : ℕ) (h : Hist) (hs : List Hist) → n ≤ h.low → AllByRecursion (λ k. n ≤ k.low) hs → AllByRecursion (λ k. n ≤ k.low) (put_hist h hs)
above_put n h [] mine all = (mine, tt)
above_put n h (k ∷ ks) mine all = by (ltb k.low h.low) (eqb k.low h.low) (above_put n h ks mine all.1)
  where
    by : (b e : Bool) → AllByRecursion (λ k. n ≤ k.low) (put_hist h ks) → AllByRecursion (λ k. n ≤ k.low) (if b then k ∷ put_hist h ks else (if e then hist_sum k h ∷ ks else h ∷ k ∷ ks))
    by b e others = grind arith

pub higher : (n m : ℕ) (hs : List Hist) → n ≤ m → AllByRecursion (λ k. m ≤ k.low) hs → AllByRecursion (λ k. n ≤ k.low) hs
higher n m [] le all = tt
higher n m (h ∷ hs) le all = (omega (arith, le, all.0), higher n m hs le all.1)

pub apart_put : (h : Hist) (hs : List Hist) → range_conflict hs (range_of h) ≡ None → h.low < h.high → AllByRecursion IsKept hs → IsApart hs → IsApart (put_hist h hs)
apart_put h [] none some kept apart = (tt, tt)
apart_put h (k ∷ ks) none some kept apart = by (ltb k.low h.low) (eqb k.low h.low) refl refl (apart_put h ks parts.1 some kept.1 apart.1)
  where
    parts : ((overlap (range_of k) (range_of h) && not (same_range (range_of k) (range_of h))) ≡ false) × (range_conflict ks (range_of h) ≡ None)
    parts = none_of (overlap (range_of k) (range_of h) && not (same_range (range_of k) (range_of h))) _ _ none

    by : (b e : Bool) → ltb k.low h.low ≡ b → eqb k.low h.low ≡ e → IsApart (put_hist h ks) → IsApart (if b then k ∷ put_hist h ks else (if e then hist_sum k h ∷ ks else h ∷ k ∷ ks))
    by true e lt eq others = grind (arith, above_put)
    by false true lt eq others = apart
    by false false lt eq others =
        let free = no_overlap (range_of k) (range_of h) parts.0 eq in
        let ge = ltb-false k.low h.low lt in
        let above = apart_high (range_of k) (range_of h) free (omega (arith, ge, kept.0.range)) in
        ((above, higher h.high k.high ks (omega (arith, above, kept.0.range)) apart.0), apart)

-- ---- the unit

pub unit_twice : (u : units.Unit) → kept_unit (kept_unit u) ≡ kept_unit u
unit_twice u = by (eqb u.rate 0) refl
  where
    by : (b : Bool) → eqb u.rate 0 ≡ b → kept_unit (kept_unit u) ≡ kept_unit u
    by b e = grind arith

pub unit_put : (h : Hist) (hs : List Hist) (o : Option units.Unit) (u : units.Unit) → IsUnitOf hs o → IsUnitOf (put_hist h hs) (Some (unwrap_or o (kept_unit u)))
unit_put h hs o u is = grind arith

-- ---- each counter is the sum of that counter

at_sum : (xs ys : List ℕ) (i : ℕ) → get_or (pointwise_sum xs ys) i 0 ≡ get_or xs i 0 + get_or ys i 0
at_sum [] ys i = let e : get_or ys i 0 ≡ 0 + get_or ys i 0 = omega arith in e
at_sum (x ∷ xs) [] i = let e : get_or (x ∷ xs) i 0 ≡ get_or (x ∷ xs) i 0 + 0 = omega arith in e
at_sum (x ∷ xs) (y ∷ ys) zero = refl
at_sum (x ∷ xs) (y ∷ ys) (suc i) = at_sum xs ys i

count_plus : (low i : ℕ) (k h : Hist) → k.low ≡ h.low → count_at low i (hist_sum k h) ≡ count_at low i k + count_at low i h
count_plus low i k h same =
    by (eqb k.low low) ∙ ap (λ (l : ℕ). count_at low i k + (if eqb l low then get_or h.counters i 0 else 0)) same
  where
    by : (b : Bool) → (if b then get_or (pointwise_sum k.counters h.counters) i 0 else 0) ≡ (if b then get_or k.counters i 0 else 0) + (if b then get_or h.counters i 0 else 0)
    by b = grind (arith, at_sum)

count_put : (low i : ℕ) (h : Hist) (hs : List Hist) → sum_by (count_at low i) (put_hist h hs) ≡ sum_by (count_at low i) hs + count_at low i h
count_put low i h [] = sum_by-cons (count_at low i) h [] ∙ omega arith
count_put low i h (k ∷ ks) = by (ltb k.low h.low) (eqb k.low h.low) refl (count_put low i h ks)
  where
    by : (b e : Bool) → eqb k.low h.low ≡ e → sum_by (count_at low i) (put_hist h ks) ≡ sum_by (count_at low i) ks + count_at low i h
        → sum_by (count_at low i) (if b then k ∷ put_hist h ks else (if e then hist_sum k h ∷ ks else h ∷ k ∷ ks)) ≡ sum_by (count_at low i) (k ∷ ks) + count_at low i h
    by true e eq others = omega (arith, others, sum_by-cons (count_at low i) k (put_hist h ks), sum_by-cons (count_at low i) k ks)
    by false true eq others = omega (arith, count_plus low i k h (eqb-true k.low h.low eq), sum_by-cons (count_at low i) (hist_sum k h) ks, sum_by-cons (count_at low i) k ks)
    by false false eq others = omega (arith, sum_by-cons (count_at low i) h (k ∷ ks), sum_by-cons (count_at low i) k ks)

-- for each low address and place, the histograms together count what those that were added count
pub counts_kept : (low i : ℕ) (hs done : List Hist) → sum_by (count_at low i) (fold (λ done h. put_hist h done) done hs) ≡ sum_by (count_at low i) done + sum_by (count_at low i) hs
counts_kept low i [] done = omega arith
counts_kept low i (h ∷ hs) done = omega (arith, counts_kept low i hs (put_hist h done), count_put low i h done, sum_by-cons (count_at low i) h hs)

pub unit_none : (hs : List Hist) (o : Option units.Unit) → IsUnitOf hs o → (o ≡ None) ↔ (hs ≡ [])
unit_none hs o is = grind arith

pub counts_of_all : (low i : ℕ) (hs : List Hist) → sum_by (count_at low i) (fold (λ done h. put_hist h done) [] hs) ≡ sum_by (count_at low i) hs
counts_of_all low i hs = omega (arith, counts_kept low i hs [])
