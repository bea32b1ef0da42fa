-- Tables that are filled one entry after another.
use Rattle.std.proofs.Common.{◌≡◌, ℕ, zero, suc, ◌+◌, List, [], ◌∷◌, ◌++◌, map, replicate, refl, ap, sym, ◌∙◌, arith}
use Rattle.std.proofs.lemmas.List.FromFn.{map-range_with_len_more}
use Rattle.call_cycles.specs.Sums.{list_of}
use Rattle.fraction128.specs.Fractions.{Fraction}
use Rattle.fraction128.specs.declared.fracs.Frac.{Frac}
use Rattle.fraction128.specs.Values.{value_of}

pub listed : (f : ℕ → ℕ) (n x : ℕ) (xs ys : List ℕ) → xs ≡ list_of n f → x ≡ f n → ys ≡ xs ++ x ∷ [] → ys ≡ list_of (n + 1) f
listed f n x xs ys so_far here is = is ∙ (λ j. so_far j ++ here j ∷ []) ∙ sym (map-range_with_len_more f 0 n n (omega arith))

pub all_same : (times : List Frac) (n m : ℕ) (z : Frac) (t : Fraction) → times ≡ replicate n z → n ≡ m → value_of z ≡ t → map value_of times ≡ replicate m t
all_same times n m z t are same is = ap (map value_of) are ∙ each n ∙ (λ j. replicate (same j) (is j))
  where
    each : (n : ℕ) → map value_of (replicate n z) ≡ replicate n (value_of z)
    each zero = refl
    each (suc n) = ap (λ (ts : List Fraction). value_of z ∷ ts) (each n)
