-- How long operands are.
use Rattle.std.proofs.Common.{◌≡◌, ℕ, ◌^◌, ◌<◌, ◌≤◌, length, drop, decimal, refl, arith}
use Rattle.std.proofs.lemmas.Fmt.{length-decimal-le}
use Rattle.text_cols.specs.Columns.{hex_of, hex8_of}
use Rattle.text_cols.proofs.Lengths.{length-decimal_32}

pub length_register : (r : ℕ) → r < 32 → length (decimal r) ≤ 2
length_register r h = length-decimal-le 2 r (omega arith) (omega arith) (omega arith)

pub length_constant : (n : ℕ) → n < 2 ^ 32 → length (decimal n) ≤ 10
length_constant = length-decimal_32

-- the last five of eight digits
pub drop-hex8_of : (n : ℕ) → drop 3 (hex8_of n) ≡ hex_of 5 n
unfolding hex8_of
drop-hex8_of n = refl
