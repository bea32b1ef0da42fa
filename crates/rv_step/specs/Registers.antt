-- The registers of a hart (RISC-V unprivileged manual, "Programmers' Model for Base Integer ISA").
use Rattle.std.specs.Prelude.{◌≡◌, ℕ, ◌^◌, ◌<◌, ◌==◌, if◌then◌else◌, List, length, slice_index, slice_set}

-- the numbers in x0 to x31, and the program counter
pub record Registers : Type 0 where
  pub x : List ℕ
  pub pc : ℕ

-- the number in a register: x0 is 0
abbrev pub register : Registers → ℕ → ℕ
register s r = if r == 0 then 0 else slice_index s.x r

-- the numbers after v is written to register r: nothing changes where it is 0
abbrev pub with_register : List ℕ → ℕ → ℕ → List ℕ
with_register xs r v = if r == 0 then xs else slice_set xs r v

-- there are 32 numbers, and each is below 2 ^ 32
pub record IsHart (s : Registers) : Type 0 where
  pub count : length s.x ≡ 32
  pub fit : (r : ℕ) → register s r < 2 ^ 32
  pub pc_fits : s.pc < 2 ^ 32
