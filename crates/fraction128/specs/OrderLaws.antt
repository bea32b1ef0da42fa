-- The laws of the order of fractions by cross products.
use Rattle.std.proofs.Common.{◌≡◌, ◌<◌, ℕ, ◌*◌, ap, sym, ◌∙◌, inl, inr, arith}
use Rattle.std.specs.Cmp.{IsTotalOrder}
use Rattle.std.specs.Ordering.{nat_cmp}
use Rattle.std.specs.declared.cmp.Ordering.TheVariants.{Less, Equal, Greater}
use Rattle.std.proofs.Math.Nat.{mul-lt-mul_of_pos_right, lt_of_mul-lt-mul_right}
use Rattle.std.proofs.lemmas.Bool.{cases_order}
use Rattle.std.proofs.lemmas.Bool.Decides.{nat_tests}
use Rattle.std.proofs.lemmas.Cmp.{nat_cmp_total}
use Rattle.fraction128.specs.Fractions.{cross_cmp}

pub less_is : (x y : ℕ) → x < y → nat_cmp x y ≡ Less
less_is x y h = grind (arith, nat_tests)

pub equal_is : (x y : ℕ) → x ≡ y → nat_cmp x y ≡ Equal
equal_is x y h = grind (arith, nat_tests)

pub greater_is : (x y : ℕ) → y < x → nat_cmp x y ≡ Greater
greater_is x y h = grind (arith, nat_tests)

pub less_from : (x y : ℕ) → nat_cmp x y ≡ Less → x < y
less_from x y h = grind (arith, nat_tests)

pub equal_from : (x y : ℕ) → nat_cmp x y ≡ Equal → x ≡ y
equal_from x y h = grind (arith, nat_tests)

pub cmp_scaled : (x y k : ℕ) → 0 < k → nat_cmp (x * k) (y * k) ≡ nat_cmp x y
cmp_scaled x y k some =
    elim (cases_order x y) [
      | inl at ↦ equal_is (x * k) (y * k) (ap (λ (z : ℕ). z * k) at) ∙ sym (equal_is x y at)
      | inr other ↦ elim other [
        | inl less ↦ less_is (x * k) (y * k) (mul-lt-mul_of_pos_right less some) ∙ sym (less_is x y less)
        | inr more ↦ greater_is (x * k) (y * k) (mul-lt-mul_of_pos_right more some) ∙ sym (greater_is x y more)
      ]
    ]

module _ {K : Type 0} (num den : K → ℕ) (some : (x : K) → 0 < den x) where
  less_chain : (x y z : K) → num x * den y < num y * den x → num y * den z < num z * den y → num x * den z < num z * den x
  less_chain x y z one two =
      let a = mul-lt-mul_of_pos_right one (some z) in
      let b = mul-lt-mul_of_pos_right two (some x) in
      lt_of_mul-lt-mul_right (den y) (chain (num x) (num y) (num z) (den x) (den y) (den z) a b)
    where
      chain : (n m k p q r : ℕ) → n * q * r < m * p * r → m * r * p < k * q * p → n * r * q < k * p * q
      chain n m k p q r a b = omega arith

  same_left : (x y z : K) → num x * den y ≡ num y * den x → nat_cmp (num x * den z) (num z * den x) ≡ nat_cmp (num y * den z) (num z * den y)
  same_left x y z same =
      sym (cmp_scaled (num x * den z) (num z * den x) (den y) (some y))
      ∙ ap (λ (k : ℕ). nat_cmp k (num z * den x * den y)) (left (num x) (num y) (den x) (den y) (den z) same)
      ∙ ap (λ (k : ℕ). nat_cmp (num y * den z * den x) k) (right (num z) (den x) (den y))
      ∙ cmp_scaled (num y * den z) (num z * den y) (den x) (some x)
    where
      left : (n m p q r : ℕ) → n * q ≡ m * p → n * r * q ≡ m * r * p
      left n m p q r is = let e = ap (λ (k : ℕ). k * r) is in omega arith

      right : (k p q : ℕ) → k * p * q ≡ k * q * p
      right k p q = omega arith

  pub cross_total : IsTotalOrder (λ x y. cross_cmp (num x) (den x) (num y) (den y))
  cross_total = record {
    antisymm = λ x y. nat_cmp_total.antisymm (num x * den y) (num y * den x);
    trans = λ x y z one two. less_is _ _ (less_chain x y z (less_from _ _ one) (less_from _ _ two));
    congr = λ x y z one. same_left x y z (equal_from _ _ one);
  }
