-- The list of outside arcs in order: what stands before an arc.
use Rattle.std.proofs.Common.{◌≡◌, ◌≢◌, ◌<◌, ◌≤◌, ◌⊎◌, ℕ, zero, suc, ◌+◌, Bool, true, false, ◌&&◌, List, [], ◌∷◌, length, take, drop, get_or, refl, ap, sym, ◌∙◌, subst, ⊎_elim, ltb, arith, length-drop, length-take}
use Rattle.std.specs.Prelude.{◌==◌}
use Rattle.std.specs.Cmp.{IsStrictWeakOrder}
use Rattle.std.specs.Ordering.{is_lt}
use Rattle.std.specs.List.{sum_by}
use Rattle.std.proofs.lemmas.Bool.{cases_eq, cases_lt, eq-eqb, ne_eqb, lt-ltb, le-ltb, true≢false}
use Rattle.std.proofs.lemmas.Bool.Decides.{nat_tests}
use Rattle.std.proofs.lemmas.Cmp.{nat_cmp_total, on_total, then_total}
use Rattle.std.proofs.lemmas.List.{get_or-take, get_or-drop, get_or_default}
use Rattle.std.proofs.lemmas.List.Sorted.{sorted_far, ranks_by}
use Rattle.std.proofs.lemmas.List.Sums.{sum_by-cons, sum_by_more, sum_by-take-drop, sum_by-take-le, get_or-le-sum_by}
use Rattle.call_cycles.specs.Sums.{sum_below, when}
use Rattle.call_cycles.specs.Graph.{GraphValue, arc_count, source_of, is_outside, leaves}
use Rattle.call_cycles.proofs.SumLemmas.{sum_at, when_le}
use Rattle.propagate.specs.Arcs.{IsCallerOrder, IsLeaving, by_caller, carried_by_first}
use Rattle.propagate.proofs.TimeLemmas.{arc_here}
use Rattle.exact_flow.specs.Steps.{ComesBefore}

weak : IsStrictWeakOrder (λ (p q : ℕ × ℕ). is_lt (by_caller p q))
weak = ranks_by (then_total (on_total (λ (p : ℕ × ℕ). p.0) nat_cmp_total) (on_total (λ (p : ℕ × ℕ). p.1) nat_cmp_total)) (λ (p : ℕ × ℕ). p)

not_lower : (a b c d : ℕ) → is_lt (by_caller (a, b) (c, d)) ≡ false → a ≡ c → d ≤ b
not_lower a b c d h same = grind (arith, nat_tests)

lower : (a b c d : ℕ) → (a < c) ⊎ ((a ≡ c) × (b < d)) → is_lt (by_caller (a, b) (c, d)) ≡ true
lower a b c d first = ⊎_elim (λ (less : a < c). grind (arith, nat_tests)) (λ (both : (a ≡ c) × (b < d)). let same = both.0 in let less = both.1 in grind (arith, nat_tests)) first

same_terms : {X : Type 0} (f h : X → ℕ) (xs : List X) → ((k : ℕ) (d : X) → k < length xs → f (get_or xs k d) ≡ h (get_or xs k d)) → sum_by f xs ≡ sum_by h xs
same_terms f h [] same = refl
same_terms f h (x ∷ xs) same =
    let rest = same_terms f h xs (λ k d below. same (suc k) d (omega arith)) in
    let first = same 0 x (omega arith) in
    omega (arith, sum_by-cons f x xs, sum_by-cons h x xs)

no_terms : {X : Type 0} (xs : List X) → sum_by (λ (x : X). 0) xs ≡ 0
no_terms [] = refl
no_terms {X} (x ∷ xs) = let ih = no_terms xs in let one = sum_by-cons (λ (y : X). 0) x xs in omega arith

-- the terms below an end
sum_front : (m n : ℕ) (chosen : ℕ → Bool) (f : ℕ → ℕ) → n ≤ m → sum_below m (λ k. when (chosen k) (when (ltb k n) (f k))) ≡ sum_below n (λ k. when (chosen k) (f k))
sum_front zero n chosen f le = let none : n ≡ 0 = omega arith in rw none refl
sum_front (suc m) n chosen f le =
    ⊎_elim
    (λ (at : n ≡ suc m). rw at (all (suc m)))
    (λ (apart : n ≢ suc m).
    let ih = sum_front m n chosen f (omega arith) in
    let last : when (chosen m) (when (ltb m n) (f m)) ≡ 0 = rw (le-ltb m n (omega arith)) (nothing (chosen m)) in
    omega arith)
    (cases_eq n (suc m))
  where
    nothing : (b : Bool) → when b 0 ≡ 0
    nothing true = refl
    nothing false = refl

    front : (k n : ℕ) → k ≤ n → sum_below k (λ i. when (chosen i) (when (ltb i n) (f i))) ≡ sum_below k (λ i. when (chosen i) (f i))
    front zero n le = refl
    front (suc k) n le = search (ltb, lt-ltb, front k n (omega arith))

    all : (n : ℕ) → sum_below n (λ k. when (chosen k) (when (ltb k n) (f k))) ≡ sum_below n (λ k. when (chosen k) (f k))
    all n = front n n (omega arith)

module _ (g : GraphValue) (order : List (ℕ × ℕ)) (is : IsCallerOrder g order) (n : ℕ) (p : ℕ × ℕ) (below : n < length order) (at : p ≡ get_or order n p) where
  far : (j k : ℕ) (d : ℕ × ℕ) → j ≤ k → k < length order → is_lt (by_caller (get_or order k d) (get_or order j d)) ≡ false
  far = sorted_far (λ (p q : ℕ × ℕ). is_lt (by_caller p q)) weak order is.sorted

  here : IsLeaving g p
  here = arc_here g order is (λ k. 0) n p below at

  at_any : (d : ℕ × ℕ) → get_or order n d ≡ p
  at_any d = get_or_default order n d p below ∙ sym at

  -- an arc stands in the list once
  once_weight : ℕ × ℕ → ℕ
  once_weight q = when (q.0 == p.0) (when (p.1 == q.1) 1)

  counted : (q : ℕ × ℕ) → q.0 ≡ p.0 → q.1 ≡ p.1 → once_weight q ≡ 1
  unfolding once_weight
  counted q one two = rw (eq-eqb q.0 p.0 one, eq-eqb p.1 q.1 (sym two)) refl

  once : (k : ℕ) (d : ℕ × ℕ) → k < n → (get_or order k d).0 ≡ p.0 → (get_or order k d).1 ≢ p.1
  unfolding once_weight
  once k d less one two =
      let total = is.all (λ (i : ℕ). when (p.1 == i) 1) p.0 in
      let most = sum_at (arc_count g) (leaves g p.0) true p.1 1 here.0 in
      let at_most = when_le (true && leaves g p.0 p.1) 1 in
      let more = sum_by_more once_weight order n p below in
      let this : once_weight (get_or order n p) ≡ 1 = counted (get_or order n p) (ap (λ (q : ℕ × ℕ). q.0) (sym at)) (ap (λ (q : ℕ × ℕ). q.1) (sym at)) in
      let long : k < length (take n order) = omega (arith, length-take n order) in
      let first = get_or-le-sum_by once_weight (take n order) k d long in
      let that : once_weight (get_or (take n order) k d) ≡ 1 = ap once_weight (get_or-take n order k d less) ∙ counted (get_or order k d) one two in
      let le = sum_by-take-le once_weight order (n + 1) in
      absurd (omega arith)

  -- so what the arcs before it in the list bring to its caller is what those with lower numbers bring
  pub lower_numbers : (f : ℕ → ℕ) → carried_by_first order f n p.0 ≡ sum_below p.1 (λ i. when (leaves g p.0 i) (f i))
  lower_numbers f =
      let total = is.all (λ (i : ℕ). when (ltb i p.1) (f i)) p.0 in
      let front = sum_front (arc_count g) p.1 (leaves g p.0) f (let low = here.0 in omega arith) in
      let parts = sum_by-take-drop low_weight order n in
      let first = same_terms low_weight (λ (q : ℕ × ℕ). when (q.0 == p.0) (f q.1)) (take n order) before in
      let rest = same_terms low_weight (λ (q : ℕ × ℕ). 0) (drop n order) after in
      let none = no_terms (drop n order) in
      omega arith
    where
      low_weight : ℕ × ℕ → ℕ
      low_weight q = when (q.0 == p.0) (when (ltb q.1 p.1) (f q.1))

      before : (k : ℕ) (d : ℕ × ℕ) → k < length (take n order) → low_weight (get_or (take n order) k d) ≡ when ((get_or (take n order) k d).0 == p.0) (f (get_or (take n order) k d).1)
      before k d long =
          let less : k < n = omega (arith, length-take n order) in
          subst (λ (q : ℕ × ℕ). when (q.0 == p.0) (when (ltb q.1 p.1) (f q.1)) ≡ when (q.0 == p.0) (f q.1)) (sym (get_or-take n order k d less)) (one (get_or order k d) (λ same. lower_one k d less same))
        where
          lower_one : (k : ℕ) (d : ℕ × ℕ) → k < n → (get_or order k d).0 ≡ p.0 → (get_or order k d).1 < p.1
          lower_one k d less same =
              let up = subst (λ (q : ℕ × ℕ). is_lt (by_caller q (get_or order k d)) ≡ false) (at_any d) (far k n d (omega arith) below) in
              omega (arith, not_lower p.0 p.1 (get_or order k d).0 (get_or order k d).1 up (sym same), once k d less same)

          one : (q : ℕ × ℕ) → (q.0 ≡ p.0 → q.1 < p.1) → when (q.0 == p.0) (when (ltb q.1 p.1) (f q.1)) ≡ when (q.0 == p.0) (f q.1)
          one q low = grind arith

      after : (k : ℕ) (d : ℕ × ℕ) → k < length (drop n order) → low_weight (get_or (drop n order) k d) ≡ 0
      after k d long =
          subst (λ (q : ℕ × ℕ). when (q.0 == p.0) (when (ltb q.1 p.1) (f q.1)) ≡ 0) (sym (get_or-drop n order k d))
          (⊎_elim
          (λ (same : (get_or order (n + k) d).0 ≡ p.0).
          let up = subst (λ (q : ℕ × ℕ). is_lt (by_caller (get_or order (n + k) d) q) ≡ false) (at_any d) (far n (n + k) d (omega arith) (omega (arith, length-drop n order))) in
          let le = not_lower (get_or order (n + k) d).0 (get_or order (n + k) d).1 p.0 p.1 up same in
          rw (le-ltb (get_or order (n + k) d).1 p.1 le) (nothing ((get_or order (n + k) d).0 == p.0)))
          (λ (apart : (get_or order (n + k) d).0 ≢ p.0). rw (ne_eqb (get_or order (n + k) d).0 p.0 apart) refl)
          (cases_eq (get_or order (n + k) d).0 p.0))
        where
          nothing : (b : Bool) → when b 0 ≡ 0
          nothing true = refl
          nothing false = refl

  -- the arcs that come before it stand before it in the list
  pub stands_before : (j : ℕ) → j < arc_count g → is_outside g j ≡ true → ComesBefore g j p.1 → (k : ℕ) × (k < n) × (get_or order k (source_of g j, j) ≡ (source_of g j, j))
  stands_before j within out first =
      let there = is.each j within out in
      ⊎_elim
      (λ (less : there.0 < n). (there.0, less, there.2))
      (λ (more : n ≤ there.0).
      let q : ℕ × ℕ = (source_of g j, j) in
      let up = far n there.0 q more there.1 in
      let down = lower (source_of g j) j (source_of g p.1) p.1 first in
      let source : p ≡ (source_of g p.1, p.1) = let l = here in λ i. (l.1 i, p.1) in
      let up_here = subst (λ (r : ℕ × ℕ). is_lt (by_caller r p) ≡ false) there.2 (subst (λ (r : ℕ × ℕ). is_lt (by_caller (get_or order there.0 q) r) ≡ false) (at_any q) up) in
      let up_there = subst (λ (r : ℕ × ℕ). is_lt (by_caller q r) ≡ false) source up_here in
      absurd (true≢false (sym down ∙ up_there)))
      (cases_lt there.0 n)
