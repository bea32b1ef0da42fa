-- Loads and stores that do not trap.
use Rattle.std.proofs.Common.{◌≡◌, ℕ, ◌+◌, ◌-◌, ◌%◌, cond, Some, None, arith}
use Rattle.gp_base.specs.Bytes.{le}
use Rattle.rv_decode.specs.declared.instruction.Instr.{Instr}
use Rattle.rv_step.specs.Alu.{load_width, store_width, extension_of}
use Rattle.rv_step.specs.Memory.{Memory, is_inside, value_at, write_at}
use Rattle.rv_step.specs.Registers.{Registers, register}
use Rattle.rv_step.specs.Step.{address_of, loads, stores, gives, retirement, at_next}

pub load_retires : (i : Instr) (s : Registers) (m : Memory) (a n at : ℕ) → a ≡ address_of i s → n ≡ load_width i.op → a % n ≡ 0
    → Some at ≡ cond (is_inside m a n) (Some (a - m.base)) None
    → loads i s m ≡ gives i (extension_of i.op (value_at m (m.base + at) (load_width i.op))) s m
unfolding loads
load_retires i s m a n at a_is n_is aligned place = grind arith

pub store_retires : (i : Instr) (s : Registers) (m : Memory) (a n at : ℕ) → a ≡ address_of i s → n ≡ store_width i.op → a % n ≡ 0
    → Some at ≡ cond (is_inside m a n) (Some (a - m.base)) None
    → stores i s m ≡ retirement (at_next s) (write_at m (m.base + at) (le (register s i.rs2) (store_width i.op)))
unfolding stores
store_retires i s m a n at a_is n_is aligned place = grind arith
