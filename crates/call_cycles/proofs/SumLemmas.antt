-- Sums below a number: equal terms, sums of sums, sums by a key.
use Rattle.std.proofs.Common.{◌≡◌, ◌≢◌, ◌<◌, ◌≤◌, ℕ, zero, suc, ◌+◌, Bool, ◌&&◌, List, [], ◌∷◌, ◌++◌, length, get_or, take, append-nil, subst, refl, ap, sym, ◌∙◌, inl, inr, ⊎_elim, arith}
use Rattle.std.specs.Prelude.{◌==◌}
use Rattle.std.proofs.lemmas.Bool.{cases_eq, cases_order, eq-eqb, ne_eqb}
use Rattle.std.specs.List.{All, flat_map, range_with_len, sum_by}
use Rattle.std.proofs.lemmas.List.Concat.{flat_map-append}
use Rattle.std.proofs.lemmas.List.Elements.{All-nil, All-append}
use Rattle.std.proofs.lemmas.List.Sums.{sum_by-append, sum_by_more}
use Rattle.call_cycles.specs.Sums.{sum_below, max_below, when, numbers_below}

pub sum_ext : (n : ℕ) (f g : ℕ → ℕ) → ((i : ℕ) → i < n → f i ≡ g i) → sum_below n f ≡ sum_below n g
sum_ext zero f g same = refl
sum_ext (suc n) f g same = grind (arith, sum_ext n f g)

pub sum_add : (n : ℕ) (f g : ℕ → ℕ) → sum_below n (λ i. f i + g i) ≡ sum_below n f + sum_below n g
sum_add zero f g = refl
sum_add (suc n) f g = let ih = sum_add n f g in omega arith

pub sum_zero : (n : ℕ) → sum_below n (λ i. 0) ≡ 0
sum_zero zero = refl
sum_zero (suc n) = let ih = sum_zero n in omega arith

pub sum_none : (n : ℕ) (f : ℕ → ℕ) → ((i : ℕ) → i < n → f i ≡ 0) → sum_below n f ≡ 0
sum_none n f none = sum_ext n f (λ i. 0) none ∙ sum_zero n

when_here : (b o : Bool) (k c x : ℕ) → k ≡ c → when b (when (o && k == c) x) ≡ when (o && b) x
when_here b o k c x at = grind (arith, eq-eqb)

when_other : (b o : Bool) (k c x : ℕ) → k ≢ c → when b (when (o && k == c) x) ≡ 0
when_other b o k c x apart = grind (arith, ne_eqb)

-- of the keys below n one is k
pub sum_at : (n : ℕ) (set : ℕ → Bool) (o : Bool) (k x : ℕ) → k < n → sum_below n (λ c. when (set c) (when (o && k == c) x)) ≡ when (o && set k) x
sum_at zero set o k x below = absurd (omega arith)
sum_at (suc n) set o k x below =
    ⊎_elim
    (λ (at : k ≡ n).
    let before : sum_below n (λ c. when (set c) (when (o && k == c) x)) ≡ 0 = sum_none n _ (λ c h. when_other (set c) o k c x (λ q. omega arith)) in
    let last = when_here (set n) o k n x at in
    let there : when (o && set n) x ≡ when (o && set k) x = ap (λ (c : ℕ). when (o && set c) x) (sym at) in
    omega arith)
    (λ (apart : k ≢ n).
    let before = sum_at n set o k x (omega arith) in
    let last = when_other (set n) o k n x apart in
    omega arith)
    (cases_eq k n)

pub sum_mono : (n : ℕ) (f g : ℕ → ℕ) → ((i : ℕ) → i < n → f i ≤ g i) → sum_below n f ≤ sum_below n g
sum_mono zero f g below = omega arith
sum_mono (suc n) f g below = grind (arith, sum_mono n f g)

pub when_le : (b : Bool) (x : ℕ) → when b x ≤ x
when_le b x = grind arith

pub sum_front_le : (n m : ℕ) (f : ℕ → ℕ) → n ≤ m → sum_below n f ≤ sum_below m f
sum_front_le n zero f le = let none : n ≡ 0 = omega arith in rw none (omega arith)
sum_front_le n (suc m) f le =
    ⊎_elim
    (λ (at : n ≡ suc m). rw at (omega arith))
    (λ (apart : n ≢ suc m). let ih = sum_front_le n m f (omega arith) in omega arith)
    (cases_eq n (suc m))

pub max_least : (n : ℕ) (f : ℕ → ℕ) (most : ℕ) → ((i : ℕ) → i < n → f i ≤ most) → max_below n f ≤ most
max_least zero f most le = omega arith
max_least (suc n) f most le = grind (arith, max_least n f most)

pub max_ext : (n : ℕ) (f g : ℕ → ℕ) → ((i : ℕ) → i < n → f i ≡ g i) → max_below n f ≡ max_below n g
max_ext zero f g same = refl
max_ext (suc n) f g same = grind (arith, max_ext n f g)

pub le_max_below : (n : ℕ) (f : ℕ → ℕ) (i : ℕ) → i < n → f i ≤ max_below n f
le_max_below zero f i below = absurd (omega arith)
le_max_below (suc n) f i below =
    elim (cases_order i n) [
      | inl at ↦ let same : f i ≡ f n = ap f at in omega arith
      | inr other ↦ elim other [
        | inl less ↦ let ih = le_max_below n f i less in omega arith
        | inr more ↦ absurd (omega arith)
      ]
    ]

-- ---- lists over the numbers below an end

range_more : (a n : ℕ) → range_with_len a (suc n) ≡ range_with_len a n ++ (a + n) ∷ []
range_more a zero = let e : a ≡ a + 0 = omega arith in ap (λ (x : ℕ). x ∷ []) e
range_more a (suc n) = grind (arith, range_more (a + 1) n)

numbers_more : (n : ℕ) → numbers_below (suc n) ≡ numbers_below n ++ n ∷ []
numbers_more n = let e : 0 + n ≡ n = omega arith in range_more 0 n ∙ ap (λ (x : ℕ). numbers_below n ++ x ∷ []) e

pub flat_more : {A : Type 0} (h : ℕ → List A) (n : ℕ) → flat_map h (numbers_below (suc n)) ≡ flat_map h (numbers_below n) ++ h n
flat_more {A} h n =
    ap (flat_map h) (numbers_more n)
    ∙ flat_map-append h (numbers_below n) (n ∷ [])
    ∙ ap (λ (xs : List A). flat_map h (numbers_below n) ++ xs) (append-nil (h n))

pub sum_flat : {A : Type 0} (weight : A → ℕ) (h : ℕ → List A) (n : ℕ) → sum_by weight (flat_map h (numbers_below n)) ≡ sum_below n (λ k. sum_by weight (h k))
sum_flat weight h zero = refl
sum_flat weight h (suc n) = grind (arith, sum_by-append, flat_more, sum_flat weight h n)

pub all_flat : {A : Type 0} (P : A → Type 0) (h : ℕ → List A) (n : ℕ) → ((k : ℕ) → k < n → All P (h k)) → All P (flat_map h (numbers_below n))
all_flat P h zero each = All-nil P
all_flat {A} P h (suc n) each = subst (λ (xs : List A). All P xs) (sym (flat_more h n)) (All-append P (flat_map h (numbers_below n)) (h n) (all_flat P h n (λ k below. each k (omega arith))) (each n (omega arith)))

-- a sum over places is one over the list
pub sum_places : {A : Type 0} (weight : A → ℕ) (xs : List A) (d : A) (k : ℕ) → k ≤ length xs → sum_below k (λ i. weight (get_or xs i d)) ≡ sum_by weight (take k xs)
sum_places weight xs d zero le = refl
sum_places weight xs d (suc k) le =
    let ih = sum_places weight xs d k (omega arith) in
    let one : k + 1 ≡ suc k = omega arith in
    let more = rw one at (sum_by_more weight xs k d (omega arith)) in
    omega arith
