-- How much longer lists of a profile are after what was added.
use Rattle.std.proofs.Common.{ℕ, ◌+◌, ◌≤◌, Bool, true, false, ltb, eqb, List, [], ◌∷◌, length, if◌then◌else◌, arith}
use Rattle.std.specs.List.{sum_by}
use Rattle.std.proofs.lemmas.List.Sums.{sum_by-cons}
use Rattle.gmon_data.specs.declared.hist.Hist.{Hist}
use Rattle.gmon_data.specs.Tally.{tally}
use Rattle.gmon_data.specs.Hists.{hist_sum, pointwise_sum, put_hist}

-- a number more makes at most one entry more
pub tally_at_most : {K : Type 0} (same : K → K → Bool) (k : K) (n : ℕ) (es : List (K × ℕ)) → length (tally same k n es) ≤ length es + 1
tally_at_most same k n [] = omega arith
tally_at_most {K} same k n (e ∷ es) = by (same k e.0) (tally_at_most same k n es)
  where
    by : (b : Bool) → length (tally same k n es) ≤ length es + 1 → length (if b then (e.0, e.1 + n) ∷ es else e ∷ tally same k n es) ≤ length (e ∷ es) + 1
    by b h = grind arith

sum_at_most : (xs ys : List ℕ) → length (pointwise_sum xs ys) ≤ length xs + length ys
sum_at_most [] ys = omega arith
sum_at_most (x ∷ xs) [] = omega arith
sum_at_most (x ∷ xs) (y ∷ ys) = omega (arith, sum_at_most xs ys)

pub counters_at_most : (h : Hist) (hs : List Hist) → sum_by (λ k. length k.counters) (put_hist h hs) ≤ sum_by (λ k. length k.counters) hs + length h.counters
counters_at_most h [] = omega (arith, sum_by-cons (λ (k : Hist). length k.counters) h [])
counters_at_most h (k ∷ ks) = by (ltb k.low h.low) (eqb k.low h.low) (counters_at_most h ks)
  where
    f : Hist → ℕ
    f k = length k.counters

    by : (b e : Bool) → sum_by f (put_hist h ks) ≤ sum_by f ks + length h.counters → sum_by f (if b then k ∷ put_hist h ks else (if e then hist_sum k h ∷ ks else h ∷ k ∷ ks)) ≤ sum_by f (k ∷ ks) + length h.counters
    by true e others = omega (arith, others, sum_by-cons f k (put_hist h ks), sum_by-cons f k ks)
    by false true others = omega (arith, sum_at_most k.counters h.counters, sum_by-cons f (hist_sum k h) ks, sum_by-cons f k ks)
    by false false others = omega (arith, sum_by-cons f h (k ∷ ks), sum_by-cons f k ks)
