-- Results of operations on numbers below 2 ^ 32, as the RISC-V unprivileged manual has them under "RV32I" and "M".
use Rattle.std.specs.Prelude.{ℕ, ◌+◌, ◌-◌, ◌*◌, ◌/◌, ◌%◌, ◌^◌, ◌==◌, nat_lt, Bool, not, if◌then◌else◌, ℤ, pos, ◌-ℤ◌, ◌*ℤ◌, bit_and, bit_or, bit_xor}
use Rattle.std.specs.Int.{w8, w16, w32, cast_signed, int_rem_euclid, int_shr}
use Rattle.std.specs.Int.RustNames.{int_lt, int_div, int_rem, unsigned_abs}
use Rattle.rv_decode.specs.declared.instruction.Op.{Op}
use Rattle.rv_decode.specs.declared.instruction.Op.TheVariants.{Beq, Bne, Blt, Bge, Bltu, Lb, Lh, Lbu, Lhu, Sb, Sh, Addi, Slti, Sltiu, Xori, Ori, Slli, Srli, Srai, Add, Sub, Sll, Slt, Sltu, Xor, Srl, Sra, Or, Mul, Mulh, Mulhsu, Mulhu, Div, Divu, Rem}

-- the value in two's complement of a number below 2 ^ 32
abbrev pub signed_value : ℕ → ℤ
signed_value n = cast_signed w32 n

-- an integer modulo 2 ^ 32
abbrev pub word_of : ℤ → ℕ
word_of z = unsigned_abs (int_rem_euclid z (pos (2 ^ 32)))

-- 1 if it holds, else 0
abbrev pub flag : Bool → ℕ
flag b = if b then 1 else 0

-- RV32I: the result of two registers, or of a register and a constant modulo 2 ^ 32
unfoldable pub result_of : Op → ℕ → ℕ → ℕ
result_of Add a b = (a + b) % 2 ^ 32
result_of Addi a b = (a + b) % 2 ^ 32
result_of Sub a b = word_of (pos a -ℤ pos b)
result_of Sll a b = a * 2 ^ (b % 32) % 2 ^ 32
result_of Slli a b = a * 2 ^ (b % 32) % 2 ^ 32
result_of Slt a b = flag (int_lt (signed_value a) (signed_value b))
result_of Slti a b = flag (int_lt (signed_value a) (signed_value b))
result_of Sltu a b = flag (nat_lt a b)
result_of Sltiu a b = flag (nat_lt a b)
result_of Xor a b = bit_xor a b
result_of Xori a b = bit_xor a b
result_of Srl a b = a / 2 ^ (b % 32)
result_of Srli a b = a / 2 ^ (b % 32)
result_of Sra a b = word_of (int_shr (signed_value a) (b % 32))
result_of Srai a b = word_of (int_shr (signed_value a) (b % 32))
result_of Or a b = bit_or a b
result_of Ori a b = bit_or a b
-- `and`, `andi`
result_of _ a b = bit_and a b

-- bits 63 to 32 of an integer
abbrev pub high_half : ℤ → ℕ
high_half z = word_of (int_shr z 32)

-- Quotients are rounded toward zero, remainders have the dividend's sign. By 0 the quotient is all ones and the
-- remainder the dividend. The one signed quotient that is too large, 2 ^ 31, is -2 ^ 31 modulo 2 ^ 32.
abbrev pub signed_quotient_of : ℕ → ℕ → ℕ
signed_quotient_of a b = if b == 0 then 2 ^ 32 - 1 else word_of (int_div (signed_value a) (signed_value b))

abbrev pub signed_remainder_of : ℕ → ℕ → ℕ
signed_remainder_of a b = if b == 0 then a else word_of (int_rem (signed_value a) (signed_value b))

abbrev pub quotient_of : ℕ → ℕ → ℕ
quotient_of a b = if b == 0 then 2 ^ 32 - 1 else a / b

abbrev pub remainder_of : ℕ → ℕ → ℕ
remainder_of a b = if b == 0 then a else a % b

-- M
unfoldable pub mul_div_of : Op → ℕ → ℕ → ℕ
mul_div_of Mul a b = a * b % 2 ^ 32
mul_div_of Mulh a b = high_half (signed_value a *ℤ signed_value b)
mul_div_of Mulhsu a b = high_half (signed_value a *ℤ pos b)
mul_div_of Mulhu a b = high_half (pos (a * b))
mul_div_of Div a b = signed_quotient_of a b
mul_div_of Divu a b = quotient_of a b
mul_div_of Rem a b = signed_remainder_of a b
-- `remu`
mul_div_of _ a b = remainder_of a b

-- whether a branch is taken
unfoldable pub taken_of : Op → ℕ → ℕ → Bool
taken_of Beq a b = a == b
taken_of Bne a b = not (a == b)
taken_of Blt a b = int_lt (signed_value a) (signed_value b)
taken_of Bge a b = not (int_lt (signed_value a) (signed_value b))
taken_of Bltu a b = nat_lt a b
-- `bgeu`
taken_of _ a b = not (nat_lt a b)

-- how many bytes a load moves
unfoldable pub load_width : Op → ℕ
load_width Lb = 1
load_width Lbu = 1
load_width Lh = 2
load_width Lhu = 2
-- `lw`
load_width _ = 4

-- how many bytes a store moves
unfoldable pub store_width : Op → ℕ
store_width Sb = 1
store_width Sh = 2
-- `sw`
store_width _ = 4

-- the number that a load makes of the number in memory: `lb` and `lh` extend its sign
unfoldable pub extension_of : Op → ℕ → ℕ
extension_of Lb n = word_of (cast_signed w8 n)
extension_of Lh n = word_of (cast_signed w16 n)
-- `lbu`, `lhu`, `lw`
extension_of _ n = n
