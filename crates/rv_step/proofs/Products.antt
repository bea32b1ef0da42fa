-- Products of signed numbers.
use Rattle.std.proofs.Common.{◌≡◌, ◌^◌, ◌≤◌, ℤ, pos, negsuc, ◌*ℤ◌, arith, lit<}
use Rattle.std.specs.Int.{w32, w64, cast_signed, cast_unsigned}
use Rattle.std.specs.Int.RustNames.{FitsSigned, unsigned_abs}
use Rattle.std.proofs.lemmas.Int.{to_z-of_z, fits_signed_mul}
use Rattle.rv_step.specs.Alu.{high_half}

abbrev wide : ℤ → ℤ
wide z = cast_signed w64 (cast_unsigned w64 z)

pub abs_below : (z : ℤ) → FitsSigned w32 z → unsigned_abs z ≤ 2 ^ 31
abs_below (pos n) h = omega (arith, h.sfits)
abs_below (negsuc n) h = omega (arith, h.sfits)

-- a product of numbers of 32 bits keeps its value in 64
pub high_half_wide : (x y : ℤ) → FitsSigned w64 x → FitsSigned w64 y → unsigned_abs x ≤ 2 ^ 31 → unsigned_abs y ≤ 2 ^ 31 → high_half (wide (wide x *ℤ wide y)) ≡ high_half (x *ℤ y)
high_half_wide x y x_fits y_fits x_below y_below = search (to_z-of_z, fits_signed_mul, lit<)
