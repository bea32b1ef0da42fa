-- Sums below a number: terms by their keys, single terms, and sums over lists.
use Rattle.std.proofs.Common.{◌≡◌, ◌≢◌, ◌<◌, ◌≤◌, ℕ, zero, suc, ◌+◌, Bool, true, false, ◌&&◌, List, length, sum, refl, ap, ◌∙◌, ⊎_elim, arith}
use Rattle.std.specs.Prelude.{◌==◌, slice_index}
use Rattle.std.proofs.lemmas.Bool.{cases_eq}
use Rattle.std.proofs.lemmas.List.{take_all}
use Rattle.call_cycles.specs.Sums.{sum_below, when}
use Rattle.call_cycles.proofs.SumLemmas.{sum_ext, sum_add, sum_none, sum_at, sum_places}

pub when_add : (b : Bool) (x y : ℕ) → when b (x + y) ≡ when b x + when b y
when_add true x y = refl
when_add false x y = refl

when_zero : (b : Bool) → when b 0 ≡ 0
when_zero true = refl
when_zero false = refl

-- the terms of a sum, put together by their keys
pub sum_by_key : (m n : ℕ) (set : ℕ → Bool) (o : ℕ → Bool) (key x : ℕ → ℕ) → ((i : ℕ) → i < m → key i < n)
    → sum_below n (λ c. when (set c) (sum_below m (λ i. when (o i && key i == c) (x i)))) ≡ sum_below m (λ i. when (o i && set (key i)) (x i))
sum_by_key zero n set o key x within = sum_none n _ (λ c h. when_zero (set c))
sum_by_key (suc m) n set o key x within =
    let rest = sum_by_key m n set o key x (λ i h. within i (omega arith)) in
    let last = sum_at n set (o m) (key m) (x m) (within m (omega arith)) in
    let parts = sum_ext n _ (λ c. when (set c) (sum_below m (λ i. when (o i && key i == c) (x i))) + when (set c) (when (o m && key m == c) (x m))) (λ c h. when_add (set c) _ _) in
    parts ∙ sum_add n _ _ ∙ omega (arith, rest, last)

pub term_le_sum : (n : ℕ) (f : ℕ → ℕ) (i : ℕ) → i < n → f i ≤ sum_below n f
term_le_sum zero f i below = absurd (omega arith)
term_le_sum (suc n) f i below =
    ⊎_elim
    (λ (at : i ≡ n). let same : f i ≡ f n = ap f at in omega arith)
    (λ (apart : i ≢ n). let ih = term_le_sum n f i (omega arith) in omega arith)
    (cases_eq i n)

-- the numbers of a list by their places
pub sum_of_places : (n : ℕ) (xs : List ℕ) → length xs ≡ n → sum_below n (slice_index xs) ≡ sum xs
sum_of_places n xs long = sum_places (λ x. x) xs 0 n (omega arith) ∙ ap sum (take_all n xs (omega arith))
