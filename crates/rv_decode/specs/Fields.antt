-- Fields and immediates of a word, as the RISC-V unprivileged manual has them under "Base
-- Instruction Formats" and "Immediate Encoding Variants".
use Rattle.std.specs.Prelude.{ℕ, ◌+◌, ◌*◌, ◌/◌, ◌%◌, ◌^◌, ℤ, pos, ◌-ℤ◌, nat_lt, if◌then◌else◌}
use Rattle.std.specs.Int.{cast_unsigned, w32}

-- the n bits of a word from bit k on
abbrev pub field : ℕ → ℕ → ℕ → ℕ
field w k n = w / 2 ^ k % 2 ^ n

-- the value in two's complement of bits whose highest, the sign, counts `sign`
abbrev pub signed_of : ℕ → ℕ → ℤ
signed_of sign n = if nat_lt n sign then pos n else pos n -ℤ pos (2 * sign)

-- bits 31..20
abbrev pub imm_i : ℕ → ℤ
imm_i w = signed_of (2 ^ 11) (field w 20 12)

-- bits 31..25, 11..7
abbrev pub imm_s : ℕ → ℤ
imm_s w = signed_of (2 ^ 11) (field w 25 7 * 2 ^ 5 + field w 7 5)

-- bits 31, 7, 30..25, 11..8, and a zero
abbrev pub imm_b : ℕ → ℤ
imm_b w =
    signed_of (2 ^ 12) (field w 31 1 * 2 ^ 12 + field w 7 1 * 2 ^ 11 + field w 25 6 * 2 ^ 5 + field w 8 4 * 2)

-- bits 31..12, and twelve zeros
abbrev pub imm_u : ℕ → ℤ
imm_u w = signed_of (2 ^ 31) (field w 12 20 * 2 ^ 12)

-- bits 31, 19..12, 20, 30..21, and a zero
abbrev pub imm_j : ℕ → ℤ
imm_j w =
    signed_of (2 ^ 20) (field w 31 1 * 2 ^ 20 + field w 12 8 * 2 ^ 12 + field w 20 1 * 2 ^ 11 + field w 21 10 * 2)

-- where a jump or a branch at pc goes by its constant, modulo 2 ^ 32
abbrev pub jump_target : ℕ → ℤ → ℕ
jump_target pc imm = (pc + cast_unsigned w32 imm) % 2 ^ 32
