-- Numbers in pieces: how far they reach, and the largest of some.
use Rattle.std.proofs.Common.{◌≡◌, ℕ, zero, suc, ◌+◌, ◌^◌, ◌<◌, ◌≤◌, max, List, [], ◌∷◌, ◌++◌, length, take, map, get_or, slice_get, Some, Bool, ltb, eqb, cond, refl, sym, ap, ◌∙◌, Ordering, arith}
use Rattle.std.specs.Ordering.{nat_cmp, ord_max, is_lt}
use Rattle.std.specs.List.{sum_by}
use Rattle.std.proofs.lemmas.List.Sums.{sum_by-cons}
use Rattle.gmon_data.specs.declared.hist.Hist.{Hist}
use Rattle.std.proofs.lemmas.List.{map-append, take_more}
use Rattle.gmon_gnu.specs.Splitting.{largest}

-- `max` of the standard library
pub larger : (a b : ℕ) → ord_max nat_cmp a b ≡ max a b
larger a b = by (ltb b a) (eqb b a) refl refl
  where
    of : (r : Ordering) → r ≡ nat_cmp b a → cond (is_lt r) a b ≡ ord_max nat_cmp a b
    of r e = ap (λ (r : Ordering). cond (is_lt r) a b) e

    by : (l e : Bool) → ltb b a ≡ l → eqb b a ≡ e → ord_max nat_cmp a b ≡ max a b
    by l e lt eq = grind arith

largest_last : (xs : List ℕ) (x : ℕ) → largest (xs ++ x ∷ []) ≡ max (largest xs) x
largest_last [] x = omega arith
largest_last (y ∷ xs) x = omega (arith, largest_last xs x)

pub largest_more : (xs : List ℕ) (i x : ℕ) → i < length xs → x ≡ get_or xs i x → largest (take (i + 1) xs) ≡ max (largest (take i xs)) x
largest_more xs i x within is = ap largest (take_more xs i x within ∙ ap (λ (y : ℕ). take i xs ++ y ∷ []) (sym is)) ∙ largest_last (take i xs) x

-- of the numbers of entries
pub largest_entry : (es : List (ℕ × ℕ)) (i : ℕ) (e : ℕ × ℕ) → i < length es → e ≡ get_or es i e → largest (map (λ e. e.1) (take (i + 1) es)) ≡ max (largest (map (λ e. e.1) (take i es))) e.1
largest_entry es i e within is =
    ap (λ (l : List (ℕ × ℕ)). largest (map (λ e. e.1) l)) (take_more es i e within ∙ ap (λ (x : ℕ × ℕ). take i es ++ x ∷ []) (sym is))
    ∙ ap largest (map-append (λ (e : ℕ × ℕ). e.1) (take i es) (e ∷ []))
    ∙ largest_last (map (λ e. e.1) (take i es)) e.1

-- a kept histogram has no more counters than all of them
pub counters_few : (hs : List Hist) (i : ℕ) (h : Hist) → slice_get hs i ≡ Some h → sum_by (λ h. length h.counters) hs < 2 ^ 26 → length h.counters < 2 ^ 32
counters_few hs i h at few = omega (arith, few, one_of_all hs i h at)
  where
    one_of_all : (hs : List Hist) (i : ℕ) (h : Hist) → slice_get hs i ≡ Some h → length h.counters ≤ sum_by (λ h. length h.counters) hs
    one_of_all [] i h at = absurd cc
    one_of_all (k ∷ ks) zero h at = let same : k ≡ h = cc in omega (arith, sum_by-cons (λ (h : Hist). length h.counters) k ks, ap (λ (x : Hist). length x.counters) same)
    one_of_all (k ∷ ks) (suc i) h at = omega (arith, one_of_all ks i h at, sum_by-cons (λ (h : Hist). length h.counters) k ks)
