-- Members of components, counted.
use Rattle.std.proofs.Common.{◌≡◌, ◌≢◌, ◌<◌, ◌≤◌, ◌↔◌, ℕ, zero, suc, ◌+◌, cond, List, [], ◌∷◌, length, get_or, refl, ⊎_elim, arith}
use Rattle.std.specs.Prelude.{◌==◌, IsTrue}
use Rattle.std.specs.List.{count_by}
use Rattle.std.proofs.lemmas.Bool.{cases_eq, ne_eqb, ltb-true, lt-ltb}
use Rattle.std.proofs.lemmas.List.Sums.{sum_by-cons}
use Rattle.call_cycles.specs.Graph.{GraphValue, IsGraph, HasOtherMember, component_count, head_of, is_cycle}

count : ℕ → List ℕ → ℕ
count c xs = count_by (λ d. d == c) xs

count_here : (c x : ℕ) (xs : List ℕ) → x ≡ c → count c (x ∷ xs) ≡ 1 + count c xs
unfolding count
count_here c x xs at = grind (arith, sum_by-cons (λ (d : ℕ). cond (d == c) 1 0) x xs)

count_other : (c x : ℕ) (xs : List ℕ) → x ≢ c → count c (x ∷ xs) ≡ count c xs
unfolding count
count_other c x xs apart = search (ne_eqb, sum_by-cons)

count_rest : (c x : ℕ) (xs : List ℕ) → count c xs ≤ count c (x ∷ xs)
count_rest c x xs = grind (arith, count_here, count_other)

count_none : (c : ℕ) → count c [] ≡ 0
unfolding count
count_none c = refl

-- where the count isn't 0 there is one
one_place : (c : ℕ) (xs : List ℕ) → 0 < count c xs → (i : ℕ) × (i < length xs) × (get_or xs i 0 ≡ c)
one_place c [] some = let none = count_none c in absurd (omega arith)
one_place c (x ∷ xs) some =
    ⊎_elim
    (λ (at : x ≡ c). (0, omega arith, at))
    (λ (apart : x ≢ c).
    let h = count_other c x xs apart in
    let r = one_place c xs (omega arith) in
    let r1 = r.1 in
    (suc r.0, omega arith, r.2))
    (cases_eq x c)

other_place : (c : ℕ) (xs : List ℕ) (h : ℕ) → h < length xs → get_or xs h 0 ≡ c → 1 < count c xs → (i : ℕ) × (i < length xs) × (get_or xs i 0 ≡ c) × (i ≢ h)
other_place c [] h below at two = absurd (omega arith)
other_place c (x ∷ xs) zero below at two =
    let one = count_here c x xs at in
    let r = one_place c xs (omega arith) in
    (suc r.0, omega arith, r.2, λ q. omega arith)
other_place c (x ∷ xs) (suc h) below at two =
    ⊎_elim
    (λ (here : x ≡ c). (0, omega arith, here, λ q. omega arith))
    (λ (apart : x ≢ c).
    let rest = count_other c x xs apart in
    let r = other_place c xs h (omega arith) at (omega arith) in
    let r1 = r.1 in
    let r3 = r.3 in
    (suc r.0, omega arith, r.2, λ q. r3 (omega arith)))
    (cases_eq x c)

one_counts : (c : ℕ) (xs : List ℕ) (i : ℕ) → i < length xs → get_or xs i 0 ≡ c → 1 ≤ count c xs
one_counts c [] i below at = absurd (omega arith)
one_counts c (x ∷ xs) zero below at = let one = count_here c x xs at in omega arith
one_counts c (x ∷ xs) (suc i) below at = let rest = count_rest c x xs in let ih = one_counts c xs i (omega arith) at in omega arith

two_count : (c : ℕ) (xs : List ℕ) (i h : ℕ) → i < length xs → h < length xs → get_or xs i 0 ≡ c → get_or xs h 0 ≡ c → i ≢ h → 2 ≤ count c xs
two_count c [] i h low_i low_h at_i at_h apart = absurd (omega arith)
two_count c (x ∷ xs) zero zero low_i low_h at_i at_h apart = absurd (apart refl)
two_count c (x ∷ xs) zero (suc h) low_i low_h at_i at_h apart = let one = count_here c x xs at_i in let more = one_counts c xs h (omega arith) at_h in omega arith
two_count c (x ∷ xs) (suc i) zero low_i low_h at_i at_h apart = let one = count_here c x xs at_h in let more = one_counts c xs i (omega arith) at_i in omega arith
two_count c (x ∷ xs) (suc i) (suc h) low_i low_h at_i at_h apart = grind (arith, count_rest, two_count c xs i h (omega arith) (omega arith) at_i at_h)

pub cycles_are : (g : GraphValue) (c : ℕ) → IsGraph g → c < component_count g → IsTrue (is_cycle g c) ↔ HasOtherMember g c
unfolding count
cycles_are g c is below =
    let len = is.components.each in
    let head = is.components.heads_below c below in
    let in_c = is.components.heads_in c below in (
      λ yes.
          let two : 1 < count c g.component = ltb-true 1 (count c g.component) yes in
          let r = other_place c g.component (head_of g c) (omega arith) in_c two in
          let r1 = r.1 in
          (r.0, omega arith, r.2, r.3),
      λ other.
          let o1 = other.1 in
          let two = two_count c g.component other.0 (head_of g c) (omega arith) (omega arith) other.2 in_c other.3 in
          lt-ltb 1 (count c g.component) (omega arith),
    )
