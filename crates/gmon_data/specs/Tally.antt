-- Numbers by key, in the order in which the keys came first.
use Rattle.std.specs.Prelude.{◌≡◌, ℕ, ◌+◌, Bool, List, [], ◌∷◌, ◌++◌, map, fold, if◌then◌else◌}
use Rattle.std.specs.List.{list_any, sum_by}

-- n more at a key: a key that is there keeps its place, and a new one goes last
abbrev pub tally : {K : Type 0} → (K → K → Bool) → K → ℕ → List (K × ℕ) → List (K × ℕ)
tally same k n [] = (k, n) ∷ []
tally same k n (e ∷ es) = if same k e.0 then (e.0, e.1 + n) ∷ es else e ∷ tally same k n es

-- the keys without repetitions, each where it came first
abbrev pub distinct_keys : {K : Type 0} → (K → K → Bool) → List K → List K
distinct_keys same ks = fold (λ done k. if list_any (same k) done then done else done ++ k ∷ []) [] ks

-- the sum of a key's numbers
abbrev pub sum_at : {K : Type 0} → (K → K → Bool) → K → List (K × ℕ) → ℕ
sum_at same k es = sum_by (λ e. if same k e.0 then e.1 else 0) es

-- each key with the sum of its numbers
abbrev pub sums_by_key : {K : Type 0} → (K → K → Bool) → List (K × ℕ) → List (K × ℕ)
sums_by_key same es = map (λ k. (k, sum_at same k es)) (distinct_keys same (map (λ e. e.0) es))

-- the sum of all numbers
abbrev pub tally_total : {K : Type 0} → List (K × ℕ) → ℕ
tally_total es = sum_by (λ e. e.1) es

-- numbers added one after the other
abbrev pub tally_all : {K : Type 0} → (K → K → Bool) → List (K × ℕ) → List (K × ℕ) → List (K × ℕ)
tally_all same added es = fold (λ l e. tally same e.0 e.1 l) es added

-- some first ones were added, and none after them
pub record IsTalliedPartly {K : Type 0} (same : K → K → Bool) (added old new : List (K × ℕ)) : Type 0 where
  pub done : List (K × ℕ)
  pub next : K × ℕ
  pub rest : List (K × ℕ)
  pub split : added ≡ done ++ next ∷ rest
  pub tallied : new ≡ tally_all same done old
