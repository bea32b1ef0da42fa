-- The greatest common divisor, and fractions in lowest terms.
use Rattle.std.proofs.Common.{◌≡◌, ◌≢◌, ◌<◌, ◌≤◌, ℕ, zero, suc, ◌*◌, ◌/◌, ◌%◌, ap, sym, ◌∙◌, subst, ⊎_elim, arith}
use Rattle.std.specs.Int.{IsGcd, ◌∣◌}
use Rattle.std.proofs.Math.Nat.{dvd-zero, dvd_trans, dvd_antisymm, dvd-mul_left, dvd-mul_right, mul-dvd-mul_right, dvd_of_mul-dvd-mul_right, eq-one_of_dvd-one, pos_of_dvd_of_pos, div-mul_cancel, mod-eq-sub-mul-div, mul-div-mul_right, mul-pos, mul_comm, mul-sub, eq_of_mul-eq-mul_right}
use Rattle.std.proofs.lemmas.Nat.{mod_below}
use Rattle.std.proofs.lemmas.Nat.Gcd.{IsGcd-from_zero, IsGcd-from_mod, same_from_IsGcd}
use Rattle.std.proofs.lemmas.Bool.{cases_eq, eq-eqb, ne_eqb}
use Rattle.fraction128.specs.Fractions.{gcd, last_divisor, fraction}

last_is : (n a b : ℕ) → b ≤ n → IsGcd a b (last_divisor n a b)
last_is zero a b within = IsGcd-from_zero a b (omega arith)
last_is (suc n) a b within =
    ⊎_elim
    (λ (none : b ≡ 0). rw (eq-eqb b 0 none) (IsGcd-from_zero a b none))
    (λ (some : b ≢ 0).
    let rest = mod_below a b (omega arith) in
    rw (ne_eqb b 0 some) (IsGcd-from_mod a b (last_divisor n b (a % b)) (last_is n b (a % b) (omega arith))))
    (cases_eq b 0)

pub gcd_is : (a b : ℕ) → IsGcd a b (gcd a b)
unfolding gcd
gcd_is a b = last_is b a b (omega arith)

pub is_gcd : (a b g : ℕ) → IsGcd a b g → g ≡ gcd a b
is_gcd a b g is = same_from_IsGcd a b g (gcd a b) is (gcd_is a b)

pub gcd_divides : (a b : ℕ) → (gcd a b ∣ a) × (gcd a b ∣ b)
gcd_divides a b = let is = gcd_is a b in (is.0, is.1)

pub gcd_some : (a b : ℕ) → 0 < b → 0 < gcd a b
gcd_some a b some = pos_of_dvd_of_pos (gcd_divides a b).1 some

pub gcd_swap : (a b : ℕ) → gcd a b ≡ gcd b a
gcd_swap a b = let is = gcd_is a b in is_gcd b a (gcd a b) (is.1, is.0, λ d p q. is.2 d q p)

-- two numbers are coprime where only 1 divides both
pub coprime_from : (a b : ℕ) → ((d : ℕ) → d ∣ a → d ∣ b → d ≡ 1) → gcd a b ≡ 1
coprime_from a b only = let is = gcd_divides a b in only (gcd a b) is.0 is.1

pub coprime_only : (a b d : ℕ) → gcd a b ≡ 1 → d ∣ a → d ∣ b → d ≡ 1
coprime_only a b d one p q = eq-one_of_dvd-one (subst (λ (g : ℕ). d ∣ g) one ((gcd_is a b).2 d p q))

-- divided by their greatest common divisor they are
pub coprime_quotients : (n d : ℕ) → 0 < d → gcd (n / gcd n d) (d / gcd n d) ≡ 1
coprime_quotients n d some = coprime_from (n / g) (d / g) only
  where
    g : ℕ
    g = gcd n d

    only : (k : ℕ) → k ∣ n / gcd n d → k ∣ d / gcd n d → k ≡ 1
    only k p q =
        let both = gcd_divides n d in
        let positive = gcd_some n d some in
        let in_n : k * gcd n d ∣ n = subst (λ (z : ℕ). k * gcd n d ∣ z) (div-mul_cancel (gcd n d) both.0) (mul-dvd-mul_right k p (gcd n d)) in
        let in_d : k * gcd n d ∣ d = subst (λ (z : ℕ). k * gcd n d ∣ z) (div-mul_cancel (gcd n d) both.1) (mul-dvd-mul_right k q (gcd n d)) in
        let in_g = (gcd_is n d).2 (k * gcd n d) in_n in_d in
        let one : gcd n d ≡ 1 * gcd n d = omega arith in
        eq-one_of_dvd-one (dvd_of_mul-dvd-mul_right {k = gcd n d} k {n = 1} positive (subst (λ (z : ℕ). k * gcd n d ∣ z) one in_g))

-- ---- Euclid's lemma

mod_scaled : (a b k : ℕ) → 0 < k → (a * k) % (b * k) ≡ (a % b) * k
mod_scaled a b k some = grind (arith, mod-eq-sub-mul-div, mul-div-mul_right, mul_comm, mul-sub)

last_scaled : (n a b k : ℕ) → 0 < k → b ≤ n → IsGcd (a * k) (b * k) (last_divisor n a b * k)
last_scaled zero a b k some within = IsGcd-from_zero (a * k) (b * k) (let none : b ≡ 0 = omega arith in rw none (omega arith))
last_scaled (suc n) a b k some within =
    ⊎_elim
    (λ (none : b ≡ 0). rw (eq-eqb b 0 none) (IsGcd-from_zero (a * k) (b * k) (rw none (omega arith))))
    (λ (more : b ≢ 0).
    let rest = mod_below a b (omega arith) in
    rw (ne_eqb b 0 more) (IsGcd-from_mod (a * k) (b * k) (last_divisor n b (a % b) * k) (rw (mod_scaled a b k some) (last_scaled n b (a % b) k some (omega arith)))))
    (cases_eq b 0)

pub gcd_scaled : (a b k : ℕ) → 0 < k → gcd (a * k) (b * k) ≡ gcd a b * k
unfolding gcd
gcd_scaled a b k some = sym (is_gcd (a * k) (b * k) (gcd a b * k) (last_scaled b a b k some (omega arith)))

-- what is coprime to one factor and divides the product divides the other
pub divides_other : (x y z : ℕ) → 0 < z → gcd x y ≡ 1 → x ∣ y * z → x ∣ z
divides_other x y z some one divides =
    let all = (gcd_is (x * z) (y * z)).2 x (dvd-mul_right x z) divides in
    subst (λ (g : ℕ). x ∣ g) (gcd_scaled x y z some ∙ ap (λ (g : ℕ). g * z) one ∙ omega arith) all

-- coprime to both factors is coprime to the product
coprime_product : (x y z : ℕ) → 0 < z → gcd x y ≡ 1 → gcd x z ≡ 1 → gcd x (y * z) ≡ 1
coprime_product x y z some one two = coprime_from x (y * z) only
  where
    only : (k : ℕ) → k ∣ x → k ∣ y * z → k ≡ 1
    only k p q = search (coprime_from, coprime_only, dvd_trans, divides_other)

-- ---- lowest terms

-- two fractions in lowest terms with the same value are the same
pub same_lowest : (n d p q : ℕ) → 0 < d → 0 < q → gcd n d ≡ 1 → gcd p q ≡ 1 → n * q ≡ p * d → (n ≡ p) × (d ≡ q)
same_lowest n d p q some_d some_q one two same = (nums, dens)
  where
    d_in_q : d ∣ q
    d_in_q = divides_other d n q some_q (gcd_swap d n ∙ one) (subst (λ (z : ℕ). d ∣ z) (sym same) (dvd-mul_left d p))

    q_in_d : q ∣ d
    q_in_d = divides_other q p d some_d (gcd_swap q p ∙ two) (subst (λ (z : ℕ). q ∣ z) same (dvd-mul_left q n))

    dens : d ≡ q
    dens = dvd_antisymm d_in_q q_in_d

    nums : n ≡ p
    nums = eq_of_mul-eq-mul_right q some_q n p (same ∙ ap (λ (z : ℕ). p * z) dens)

-- lowest terms keep the value
pub lowest_value : (n d : ℕ) → n / gcd n d * d ≡ n * (d / gcd n d)
lowest_value n d =
    let both = gcd_divides n d in
    let a = div-mul_cancel (gcd n d) both.0 in
    let b = div-mul_cancel (gcd n d) both.1 in
    value n d (gcd n d) (n / gcd n d) (d / gcd n d) a b
  where
    value : (n d g p q : ℕ) → p * g ≡ n → q * g ≡ d → p * d ≡ n * q
    value n d g p q is_n is_d = rw (sym is_n, sym is_d) (omega arith)

pub lowest_some : (n d : ℕ) → 0 < d → 0 < d / gcd n d
lowest_some n d some =
    let b = div-mul_cancel (gcd n d) (gcd_divides n d).1 in
    pos (d / gcd n d) b
  where
    pos : (q : ℕ) → q * gcd n d ≡ d → 0 < q
    pos zero is = absurd (omega arith)
    pos (suc q) is = omega arith

-- the lowest terms of a value
pub lowest_of : (n d p q : ℕ) → 0 < d → 0 < q → gcd p q ≡ 1 → p * d ≡ n * q → (p ≡ n / gcd n d) × (q ≡ d / gcd n d)
lowest_of n d p q some_d some_q one same =
    same_lowest p q (n / gcd n d) (d / gcd n d) some_q (lowest_some n d some_d) one (coprime_quotients n d some_d) cross
  where
    value : n / gcd n d * d ≡ n * (d / gcd n d)
    value = lowest_value n d

    cross : p * (d / gcd n d) ≡ n / gcd n d * q
    cross = eq_of_mul-eq-mul_right d some_d _ _ (turn (n / gcd n d) (d / gcd n d) value)
      where
        turn : (x y : ℕ) → x * d ≡ n * y → p * y * d ≡ x * q * d
        turn x y is = let a = ap (λ (z : ℕ). z * y) same in let b = ap (λ (z : ℕ). z * q) is in omega arith

-- what two fractions' products are after the crosswise divisors are taken out
module _ (a b c d : ℕ) (some_b : 0 < b) (some_d : 0 < d) (one : gcd a b ≡ 1) (two : gcd c d ≡ 1) where
  abbrev num : ℕ
  num = a / gcd a d * (c / gcd c b)

  abbrev den : ℕ
  den = b / gcd c b * (d / gcd a d)

  quotient_in : (x y : ℕ) → x / gcd x y ∣ x
  quotient_in x y = subst (λ (z : ℕ). x / gcd x y ∣ z) (div-mul_cancel (gcd x y) (gcd_divides x y).0) (dvd-mul_right (x / gcd x y) (gcd x y))

  divisor_in : (x y : ℕ) → y / gcd x y ∣ y
  divisor_in x y = subst (λ (z : ℕ). y / gcd x y ∣ z) (div-mul_cancel (gcd x y) (gcd_divides x y).1) (dvd-mul_right (y / gcd x y) (gcd x y))

  den_some : 0 < den
  den_some = mul-pos (lowest_some c b some_b) (lowest_some a d some_d)

  coprime_den : (x : ℕ) → gcd x (b / gcd c b) ≡ 1 → gcd x (d / gcd a d) ≡ 1 → gcd x den ≡ 1
  coprime_den x p q = coprime_product x (b / gcd c b) (d / gcd a d) (lowest_some a d some_d) p q

  coprime_a : gcd (a / gcd a d) den ≡ 1
  coprime_a = search (coprime_den, coprime_from, coprime_only, dvd_trans, quotient_in, divisor_in, coprime_quotients)

  coprime_c : gcd (c / gcd c b) den ≡ 1
  coprime_c = search (coprime_den, coprime_quotients, coprime_from, coprime_only, dvd_trans, quotient_in, divisor_in)

  pub crossed_lowest : gcd num den ≡ 1
  crossed_lowest = coprime_from num den only
    where
      only : (k : ℕ) → k ∣ a / gcd a d * (c / gcd c b) → k ∣ b / gcd c b * (d / gcd a d) → k ≡ 1
      only k p q =
          ⊎_elim
          (λ (none : c / gcd c b ≡ 0).
          coprime_only (c / gcd c b) den k coprime_c (subst (λ (z : ℕ). k ∣ z) (sym none) (dvd-zero k)) q)
          (λ (some : c / gcd c b ≢ 0).
          let first : gcd k (a / gcd a d) ≡ 1 = coprime_from _ _ (λ e x y. coprime_only (a / gcd a d) den e coprime_a y (dvd_trans e x q)) in
          coprime_only (c / gcd c b) den k coprime_c (divides_other k (a / gcd a d) (c / gcd c b) (omega arith) first p) q)
          (cases_eq (c / gcd c b) 0)

  crossed_value : num * (b * d) ≡ a * c * den
  crossed_value =
      let pa = div-mul_cancel (gcd a d) (gcd_divides a d).0 in
      let pd = div-mul_cancel (gcd a d) (gcd_divides a d).1 in
      let pc = div-mul_cancel (gcd c b) (gcd_divides c b).0 in
      let pb = div-mul_cancel (gcd c b) (gcd_divides c b).1 in
      value (a / gcd a d) (d / gcd a d) (c / gcd c b) (b / gcd c b) (gcd a d) (gcd c b) pa pd pc pb
    where
      value : (x u y v g h : ℕ) → x * g ≡ a → u * g ≡ d → y * h ≡ c → v * h ≡ b → x * y * (b * d) ≡ a * c * (v * u)
      value x u y v g h is_a is_d is_c is_b = rw (sym is_a, sym is_d, sym is_c, sym is_b) (omega arith)

  pub crossed : (num ≡ a * c / gcd (a * c) (b * d)) × (den ≡ b * d / gcd (a * c) (b * d))
  crossed = lowest_of (a * c) (b * d) num den (mul-pos some_b some_d) den_some crossed_lowest crossed_value

pub sum_den_some : (b d g : ℕ) → 0 < b → 0 < d → g ≡ gcd b d → 0 < b / g * d
sum_den_some b d g some_b some_d is = rw (is, gcd_swap b d) (mul-pos (lowest_some d b some_b) some_d)

pub same_fraction : (n d p q : ℕ) → n ≡ p → d ≡ q → fraction n d ≡ fraction p q
same_fraction n d p q nums dens = λ i. record { num = nums i; den = dens i }
