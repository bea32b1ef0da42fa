-- Sums and products of fractions with known values.
use Rattle.std.proofs.Common.{◌≡◌, ◌<◌, ℕ, ◌+◌, ◌*◌, ◌/◌, refl, ap, sym, ◌∙◌, subst, arith}
use Rattle.std.proofs.Math.Nat.{div-mul_cancel, mul-pos, eq-one_of_dvd-one, eq_of_mul-eq-mul_right}
use Rattle.fraction128.specs.Fractions.{Fraction, fraction, gcd, lowest, sum_num, sum_den, fraction_sum, product_of, IsValue}
use Rattle.fraction128.proofs.DivisorLemmas.{gcd_divides, coprime_from, lowest_value, lowest_some, lowest_of, coprime_quotients, same_fraction, same_lowest, sum_den_some}

-- lowest terms depend on the value alone
pub lowest_same : (n d p q : ℕ) → 0 < d → 0 < q → n * q ≡ p * d → lowest n d ≡ lowest p q
lowest_same n d p q some_d some_q same =
    let both = lowest_of p q (n / gcd n d) (d / gcd n d) some_q (lowest_some n d some_d) (coprime_quotients n d some_d) cross in
    same_fraction _ _ _ _ both.0 both.1
  where
    turn : (x y : ℕ) → x * d ≡ n * y → x * q * d ≡ p * y * d
    turn x y is = let a = ap (λ (z : ℕ). z * q) is in let b = ap (λ (z : ℕ). z * y) same in omega arith

    cross : n / gcd n d * q ≡ p * (d / gcd n d)
    cross = eq_of_mul-eq-mul_right d some_d _ _ (turn (n / gcd n d) (d / gcd n d) (lowest_value n d))

pub lowest_is : (n d : ℕ) → 0 < d → IsValue (lowest n d) n d
lowest_is n d some = record { some = lowest_some n d some; value = lowest_value n d }

pub whole_is : (n parts : ℕ) → IsValue (fraction n 1) (parts * n) parts
whole_is n parts = record { some = omega arith; value = omega arith }

module _ (f h : Fraction) (a d : ℕ) (some : 0 < d) (is_f : IsValue f a d) where
  pub product_value : (n whole part : ℕ) → 0 < whole → IsValue h n whole → part * whole ≡ a * n → product_of f h ≡ lowest part d
  product_value n whole part some_whole is_h is =
      lowest_same (f.num * h.num) (f.den * h.den) part d (mul-pos is_f.some is_h.some) some
      (eq_of_mul-eq-mul_right whole some_whole _ _ (turn f.num f.den h.num h.den is_f.value is_h.value))
    where
      turn : (x y u v : ℕ) → x * d ≡ a * y → u * whole ≡ n * v → x * u * d * whole ≡ part * (y * v) * whole
      turn x y u v p q =
          let left : x * u * d * whole ≡ x * d * (u * whole) = omega arith in
          let right : a * y * (n * v) ≡ part * (y * v) * whole = let e = ap (λ (z : ℕ). z * (y * v)) is in omega arith in
          left ∙ ap (λ (z : ℕ). z * (u * whole)) p ∙ ap (λ (z : ℕ). a * y * z) q ∙ right

  -- the numbers of a sum before it is brought to lowest terms
  pub sum_cross : (b : ℕ) → IsValue h b d → (sum_num f h * d ≡ (a + b) * sum_den f h) × (0 < sum_den f h)
  sum_cross b is_h =
      let both = gcd_divides f.den h.den in
      let u = div-mul_cancel (gcd f.den h.den) both.0 in
      let v = div-mul_cancel (gcd f.den h.den) both.1 in
      (turn f.num f.den h.num h.den (gcd f.den h.den) (f.den / gcd f.den h.den) (h.den / gcd f.den h.den) u v is_f.value is_h.value, sum_den_some f.den h.den (gcd f.den h.den) is_f.some is_h.some refl)
    where
      turn : (x y z w g u v : ℕ) → u * g ≡ y → v * g ≡ w → x * d ≡ a * y → z * d ≡ b * w → (x * v + z * u) * d ≡ (a + b) * (u * w)
      turn x y z w g u v is_y is_w p q =
          let first : x * v * d ≡ a * (u * w) =
          let e = ap (λ (k : ℕ). k * v) p in
          let y_v : y * v ≡ u * w = rw (sym is_y, sym is_w) (omega arith) in
          let f = ap (λ (k : ℕ). a * k) y_v in
          omega arith in
          let second : z * u * d ≡ b * (u * w) = let e = ap (λ (k : ℕ). k * u) q in omega arith in
          omega arith

  pub sum_value : (b : ℕ) → IsValue h b d → fraction_sum f h ≡ lowest (a + b) d
  sum_value b is_h = let cross = sum_cross b is_h in lowest_same (sum_num f h) (sum_den f h) (a + b) d cross.1 some cross.0

-- a fraction in lowest terms is known by its value
pub one_lowest : (f h : Fraction) → 0 < f.den → 0 < h.den → gcd f.num f.den ≡ 1 → gcd h.num h.den ≡ 1 → f.num * h.den ≡ h.num * f.den → f ≡ h
one_lowest f h some_f some_h one two same = let both = same_lowest f.num f.den h.num h.den some_f some_h one two same in same_fraction f.num f.den h.num h.den both.0 both.1

pub exact_sum : (f h : Fraction) → 0 < f.den → 0 < h.den → IsValue (fraction_sum f h) (f.num * h.den + h.num * f.den) (f.den * h.den)
exact_sum f h some_f some_h =
    let d = f.den * h.den in
    let some = mul-pos some_f some_h in
    let value = sum_value f h (f.num * h.den) d some (record { some = some_f; value = omega arith }) (h.num * f.den) (record { some = some_h; value = omega arith }) in
    subst (λ (s : Fraction). IsValue s (f.num * h.den + h.num * f.den) d) (sym value) (lowest_is (f.num * h.den + h.num * f.den) d some)

pub whole_lowest : (n : ℕ) → lowest n 1 ≡ fraction n 1
whole_lowest n = grind (arith, coprime_from, eq-one_of_dvd-one)
