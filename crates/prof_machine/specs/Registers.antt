-- The registers that calls use, by their numbers in the RISC-V calling convention.
use Rattle.std.specs.Prelude.{ℕ}
use Rattle.rv_step.specs.Registers.{Registers, register}

-- where a function returns to
abbrev pub ra : Registers → ℕ
ra s = register s 1

-- what a call is given, and what it answers
abbrev pub a0 : Registers → ℕ
a0 s = register s 10

abbrev pub a1 : Registers → ℕ
a1 s = register s 11

abbrev pub a2 : Registers → ℕ
a2 s = register s 12

-- which environment call it is
abbrev pub a7 : Registers → ℕ
a7 s = register s 17
