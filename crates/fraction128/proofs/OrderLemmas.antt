-- The order of fractions by their whole parts and rests.
use Rattle.std.proofs.Common.{◌≡◌, ◌≢◌, ◌<◌, ◌≤◌, ◌⊎◌, ℕ, suc, ◌+◌, ◌*◌, ◌/◌, ◌%◌, ◌&&◌, true, ap, sym, ◌∙◌, inl, inr, arith}
use Rattle.std.specs.Prelude.{◌==◌}
use Rattle.std.specs.Cmp.{both_ways}
use Rattle.std.specs.Ordering.{nat_cmp, is_eq}
use Rattle.std.proofs.Math.Nat.{mul-lt-mul_of_pos_right, mul-le-mul_right, mul_comm, lt-div-mul-add, mul-div-le, div-add-mod}
use Rattle.std.proofs.lemmas.Bool.{cases_order}
use Rattle.fraction128.specs.Fractions.{cross_cmp, gcd}
use Rattle.fraction128.specs.OrderLaws.{less_is, greater_is}
use Rattle.fraction128.proofs.DivisorLemmas.{same_lowest}

lower_whole : (a b c d : ℕ) → 0 < b → 0 < d → a / b < c / d → a * d < c * b
lower_whole a b c d some_b some_d less =
    let above = mul-lt-mul_of_pos_right (lt-div-mul-add {a = a} some_b) some_d in
    let below = mul-le-mul_right b (mul-div-le c d) in
    let step = mul-le-mul_right (b * d) less in
    lower (a / b) (c / d) above below step
  where
    lower : (p q : ℕ) → a * d < (p * b + b) * d → d * q * b ≤ c * b → suc p * (b * d) ≤ q * (b * d) → a * d < c * b
    lower p q above below step = omega arith

-- where the whole parts differ, they are in the order of the fractions
pub cmp_whole : (a b c d : ℕ) → 0 < b → 0 < d → a / b ≢ c / d → nat_cmp (a / b) (c / d) ≡ cross_cmp a b c d
cmp_whole a b c d some_b some_d apart =
    elim (cases_order (a / b) (c / d)) [
      | inl at ↦ absurd (apart at)
      | inr other ↦ elim other [
        | inl less ↦ less_is _ _ less ∙ sym (less_is _ _ (lower_whole a b c d some_b some_d less))
        | inr more ↦ greater_is _ _ more ∙ sym (greater_is _ _ (lower_whole c d a b some_d some_b more))
      ]
    ]

cmp_added : (k x y : ℕ) → nat_cmp (k + x) (k + y) ≡ nat_cmp x y
cmp_added k x y = grind arith

-- where they are the same, the rests are
pub cmp_rest : (a b c d : ℕ) → a / b ≡ c / d → cross_cmp (a % b) b (c % d) d ≡ cross_cmp a b c d
cmp_rest a b c d same = rest (a / b) (c / d) (a % b) (c % d) (div-add-mod a b) (div-add-mod c d) same
  where
    rest : (p q r s : ℕ) → b * p + r ≡ a → d * q + s ≡ c → p ≡ q → cross_cmp r b s d ≡ cross_cmp a b c d
    rest p q r s is_a is_c same =
        let left : b * d * p + r * d ≡ a * d = let e = ap (λ (z : ℕ). z * d) is_a in omega arith in
        let right : b * d * p + s * b ≡ c * b = let e = ap (λ (z : ℕ). z * b) is_c in rw same (omega arith) in
        sym (cmp_added (b * d * p) (r * d) (s * b)) ∙ ap (λ (z : ℕ). nat_cmp z (b * d * p + s * b)) left ∙ ap (λ (z : ℕ). nat_cmp (a * d) z) right

-- a rest of nothing is the lower one
pub cmp_none : (r b s d : ℕ) → 0 < b → 0 < d → (r ≡ 0) ⊎ (s ≡ 0) → nat_cmp r s ≡ cross_cmp r b s d
cmp_none r b s d some_b some_d none = grind arith

-- rests r / b and s / d are in the order of d / s and b / r
pub cmp_turned : (r b s d : ℕ) → cross_cmp d s b r ≡ cross_cmp r b s d
cmp_turned r b s d = ap (λ (z : ℕ). nat_cmp z (b * s)) (mul_comm d r) ∙ ap (λ (z : ℕ). nat_cmp (r * d) z) (mul_comm b s)

-- fractions in lowest terms are the same where neither is lower
pub same_values : (n d p q : ℕ) → 0 < d → 0 < q → gcd n d ≡ 1 → gcd p q ≡ 1 → (n == p && d == q) ≡ is_eq (cross_cmp n d p q)
same_values n d p q some_d some_q one two = both_ways (n == p && d == q) (is_eq (cross_cmp n d p q)) to from
  where
    to : (n == p && d == q) ≡ true → is_eq (cross_cmp n d p q) ≡ true
    to same = grind arith

    from : is_eq (cross_cmp n d p q) ≡ true → (n == p && d == q) ≡ true
    from tied = grind (arith, same_lowest)
