-- Fractions of whole numbers without bound, in lowest terms, and which sums and products of them fit into 128 bits.
use Rattle.std.specs.Prelude.{◌≡◌, ℕ, zero, suc, ◌+◌, ◌*◌, ◌/◌, ◌%◌, ◌^◌, ◌<◌, ◌==◌, ◌&&◌, nat_lt, Bool, if◌then◌else◌}
use Rattle.std.specs.Ordering.{nat_cmp}
use Rattle.std.specs.declared.cmp.Ordering.{Ordering}

pub record Fraction : Type 0 where
  pub num : ℕ
  pub den : ℕ

abbrev pub fraction : ℕ → ℕ → Fraction
fraction n d = record { num = n; den = d }

-- Euclid's remainders, n of them at most
abbrev pub last_divisor : ℕ → ℕ → ℕ → ℕ
last_divisor zero a b = a
last_divisor (suc n) a b = if b == 0 then a else last_divisor n b (a % b)

-- the greatest common divisor
unfoldable pub gcd : ℕ → ℕ → ℕ
gcd a b = last_divisor b a b

-- n / d in lowest terms
abbrev pub lowest : ℕ → ℕ → Fraction
lowest n d = fraction (n / gcd n d) (d / gcd n d)

-- f is a fraction with the value n / d
pub record IsValue (f : Fraction) (n d : ℕ) : Type 0 where
  pub some : 0 < f.den
  pub value : f.num * d ≡ n * f.den

-- a sum over the least common denominator, before it is brought to lowest terms
abbrev pub sum_num : Fraction → Fraction → ℕ
sum_num a b = a.num * (b.den / gcd a.den b.den) + b.num * (a.den / gcd a.den b.den)

abbrev pub sum_den : Fraction → Fraction → ℕ
sum_den a b = a.den / gcd a.den b.den * b.den

abbrev pub fraction_sum : Fraction → Fraction → Fraction
fraction_sum a b = lowest (sum_num a b) (sum_den a b)

abbrev pub product_of : Fraction → Fraction → Fraction
product_of a b = lowest (a.num * b.num) (a.den * b.den)

-- both numbers have 128 bits
abbrev pub Fits : ℕ → ℕ → Type 0
Fits n d = (n < 2 ^ 128) × (d < 2 ^ 128)

abbrev pub fits : ℕ → ℕ → Bool
fits n d = nat_lt n (2 ^ 128) && nat_lt d (2 ^ 128)

-- a sum fits before it is brought to lowest terms, a product in lowest terms
abbrev pub FitsSum : Fraction → Fraction → Type 0
FitsSum a b = Fits (sum_num a b) (sum_den a b)

abbrev pub FitsProduct : Fraction → Fraction → Type 0
FitsProduct a b = Fits (product_of a b).num (product_of a b).den

-- the same as tests
abbrev pub fits_sum : Fraction → Fraction → Bool
fits_sum a b = fits (sum_num a b) (sum_den a b)

abbrev pub fits_product : Fraction → Fraction → Bool
fits_product a b = fits (product_of a b).num (product_of a b).den

-- the order of the values n / d and p / q
abbrev pub cross_cmp : ℕ → ℕ → ℕ → ℕ → Ordering
cross_cmp n d p q = nat_cmp (n * q) (p * d)
