-- Lists row after row: what they contain, and their order.
use Rattle.std.proofs.Common.{◌≡◌, ◌≢◌, ◌<◌, ◌≤◌, ℕ, zero, suc, ◌+◌, Bool, true, false, cond, List, [], ◌∷◌, ◌++◌, length, get_or, take, refl, ap, sym, ◌∙◌, subst, ⊎_elim, arith, append-nil}
use Rattle.std.specs.Prelude.{filter, nat_le}
use Rattle.std.specs.List.{All, AllPairs, Contains, flat_map}
use Rattle.std.proofs.lemmas.Bool.{cases_Bool, cases_eq, le-leb, lt-leb}
use Rattle.std.proofs.lemmas.List.{get_or_default, get_or-take, length-take, take_all}
use Rattle.std.proofs.lemmas.List.Elements.{All-append, All-head, All-tail, Contains-append_left, Contains-append_right, filter_more}
use Rattle.std.proofs.lemmas.List.FromFn.{length-range_with_len, get_or-range_with_len}
use Rattle.std.proofs.lemmas.List.Kept.{AllPairs-cons}
use Rattle.call_cycles.specs.Sums.{numbers_below}
use Rattle.call_cycles.proofs.SumLemmas.{flat_more, all_flat}

pub numbers_contain : (n k : ℕ) → k < n → Contains (numbers_below n) k
numbers_contain n k below = grind (arith, length-range_with_len 0 n, get_or-range_with_len 0 n k k below)

pub numbers_low : (n : ℕ) → All (λ k. k < n) (numbers_below n)
numbers_low n k d below = grind (arith, length-range_with_len, get_or-range_with_len)

pub numbers_rise : (n : ℕ) → AllPairs (λ a b. a < b) (numbers_below n)
numbers_rise n i j d less below = grind (arith, length-range_with_len, get_or-range_with_len)

-- ---- one row

filter_contains : {X : Type 0} (p : X → Bool) (xs : List X) (x : X) (i : ℕ) → i < length xs → get_or xs i x ≡ x → p x ≡ true → Contains (filter p xs) x
filter_contains p [] x i below at passes = absurd (omega arith)
filter_contains {X} p (y ∷ ys) x zero below at passes = grind arith
filter_contains {X} p (y ∷ ys) x (suc i) below at passes =
    let rest = filter_contains p ys x i (omega arith) at passes in
    ⊎_elim
    (λ (on : p y ≡ true). subst (λ (b : Bool). Contains (cond b (y ∷ filter p ys) (filter p ys)) x) (sym on) (Contains-append_right (y ∷ []) (filter p ys) x rest))
    (λ (off : p y ≡ false). subst (λ (b : Bool). Contains (cond b (y ∷ filter p ys) (filter p ys)) x) (sym off) rest)
    (cases_Bool (p y))

pub row_contains : {X : Type 0} (p : X → Bool) (xs : List X) (x : X) → Contains xs x → p x ≡ true → Contains (filter p xs) x
row_contains p xs x has passes = filter_contains p xs x has.0 has.1 has.2 passes

-- ---- rows joined

pub rows_contain : {X : Type 0} (row : ℕ → List X) (n k : ℕ) (x : X) → k < n → Contains (row k) x → Contains (flat_map row (numbers_below n)) x
rows_contain row zero k x below has = absurd (omega arith)
rows_contain {X} row (suc n) k x below has =
    subst (λ (xs : List X). Contains xs x) (sym (flat_more row n))
    (⊎_elim
    (λ (at : k ≡ n). Contains-append_right (flat_map row (numbers_below n)) (row n) x (subst (λ (j : ℕ). Contains (row j) x) at has))
    (λ (apart : k ≢ n). Contains-append_left (flat_map row (numbers_below n)) (row n) x (rows_contain row n k x (omega arith) has))
    (cases_eq k n))

pub pairs_join : {X : Type 0} (R : X → X → Type 0) (xs ys : List X) → AllPairs R xs → AllPairs R ys → All (λ x. All (R x) ys) xs → AllPairs R (xs ++ ys)
pairs_join R [] ys one two across = two
pairs_join {X} R (x ∷ xs) ys one two across =
    AllPairs-cons R x (xs ++ ys)
    (All-append (R x) xs ys (λ k d below. one zero (suc k) d (omega arith) (omega arith)) (All-head (λ z. All (R z) ys) x xs across))
    (pairs_join R xs ys (λ i j d less below. one (suc i) (suc j) d (omega arith) (omega arith)) two (All-tail (λ z. All (R z) ys) x xs across))

-- rows in order, each before the later ones
pub rows_rise : {X : Type 0} (R : X → X → Type 0) (row : ℕ → List X) (n : ℕ) → ((k : ℕ) → k < n → AllPairs R (row k)) → ((j k : ℕ) → j < k → k < n → All (λ x. All (R x) (row k)) (row j)) → AllPairs R (flat_map row (numbers_below n))
rows_rise R row zero each across = λ i j d less below. absurd (omega arith)
rows_rise {X} R row (suc n) each across =
    subst (AllPairs R) (sym (flat_more row n))
    (pairs_join R (flat_map row (numbers_below n)) (row n)
    (rows_rise R row n (λ k below. each k (omega arith)) (λ j k less below. across j k less (omega arith)))
    (each n (omega arith))
    (all_flat (λ x. All (R x) (row n)) row n (λ k below. across k n below (omega arith))))

-- ---- ascending numbers up to an end

all_pass : {X : Type 0} (p : X → Bool) (xs : List X) → All (λ x. p x ≡ true) xs → filter p xs ≡ xs
all_pass p [] all = refl
all_pass {X} p (x ∷ xs) all =
    ap (λ (b : Bool). cond b (x ∷ filter p xs) (filter p xs)) (All-head (λ y. p y ≡ true) x xs all)
    ∙ ap (λ (ys : List X). x ∷ ys) (all_pass p xs (All-tail (λ y. p y ≡ true) x xs all))

-- the last one is above the end
pub last_above : (xs : List ℕ) (top k : ℕ) → k + 1 ≡ length xs → top < get_or xs k 0 → filter (λ b. nat_le b top) (take k xs) ≡ filter (λ b. nat_le b top) xs
last_above xs top k last above =
    sym (append-nil (filter (λ b. nat_le b top) (take k xs)))
    ∙ sym (ap (λ (b : Bool). filter (λ x. nat_le x top) (take k xs) ++ cond b (get_or xs k 0 ∷ []) []) (lt-leb (get_or xs k 0) top above))
    ∙ sym (filter_more (λ b. nat_le b top) xs k 0 (omega arith))
    ∙ ap (filter (λ b. nat_le b top)) (take_all (k + 1) xs (omega arith))

-- the last one is not
pub last_within : (xs : List ℕ) (top k : ℕ) → AllPairs (λ a b. a < b) xs → k + 1 ≡ length xs → get_or xs k 0 ≤ top → xs ≡ filter (λ b. nat_le b top) xs
last_within xs top k rises last within =
    sym (all_pass (λ b. nat_le b top) xs (λ i d below.
    le-leb (get_or xs i d) top
    (⊎_elim
    (λ (at : i ≡ k). let e : get_or xs i d ≡ get_or xs k 0 = ap (λ (j : ℕ). get_or xs j d) at ∙ get_or_default xs k d 0 (omega arith) in omega arith)
    (λ (apart : i ≢ k). let up = rises i k d (omega arith) (omega arith) in let e = get_or_default xs k d 0 (omega arith) in omega arith)
    (cases_eq i k))))

pub pairs_taken : (k : ℕ) (xs : List ℕ) → AllPairs (λ a b. a < b) xs → AllPairs (λ a b. a < b) (take k xs)
pairs_taken k xs rises i j d less below = grind (arith, length-take, get_or-take)
