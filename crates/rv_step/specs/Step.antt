-- One step of a hart: one case for each instruction of RV32I, M and Zifencei, as the RISC-V unprivileged manual
-- describes it. When a step traps is this project's own choice.
use Rattle.std.specs.Prelude.{ℕ, ◌+◌, ◌-◌, ◌%◌, ◌^◌, ◌==◌, not, if◌then◌else◌, Option, Some, None, option_and_then, ℤ}
use Rattle.std.specs.Int.{w32, cast_unsigned}
use Rattle.gp_base.specs.Bytes.{le}
use Rattle.rv_decode.specs.declared.instruction.Op.{Op}
use Rattle.rv_decode.specs.declared.instruction.Op.TheVariants.{Lui, Auipc, Jal, Jalr, Beq, Bne, Blt, Bge, Bltu, Bgeu, Lb, Lh, Lw, Lbu, Lhu, Sb, Sh, Sw, Addi, Slti, Sltiu, Xori, Ori, Andi, Slli, Srli, Srai, Add, Sub, Sll, Slt, Sltu, Xor, Srl, Sra, Or, And, Fence, FenceI, Ecall, Ebreak, Mul, Mulh, Mulhsu, Mulhu, Div, Divu, Rem, Remu}
use Rattle.rv_decode.specs.declared.instruction.Instr.{Instr}
use Rattle.rv_decode.specs.Fields.{jump_target}
use Rattle.rv_decode.specs.Table.{instr_of}
use Rattle.rv_step.specs.declared.stepped.Stepped.{Stepped}
use Rattle.rv_step.specs.declared.stepped.Stepped.TheVariants.{Retired, Trap, Ecall as EnvironmentCall}
use Rattle.rv_step.specs.declared.stepped.TrapKind.{TrapKind}
use Rattle.rv_step.specs.declared.stepped.TrapKind.TheVariants.{Illegal, Breakpoint, FetchOutside, LoadOutside, StoreOutside, LoadMisaligned, StoreMisaligned, JumpMisaligned}
use Rattle.rv_step.specs.Alu.{result_of, mul_div_of, taken_of, load_width, store_width, extension_of}
use Rattle.rv_step.specs.Memory.{Memory, is_inside, value_at, write_at}
use Rattle.rv_step.specs.Registers.{Registers, register, with_register}

-- the answer of a step, and what it leaves
pub record Outcome : Type 0 where
  pub answer : Stepped
  pub registers : Registers
  pub memory : Memory

abbrev pub outcome : Stepped → Registers → Memory → Outcome
outcome answer s m = record { answer = answer; registers = s; memory = m }

-- nothing changes
abbrev pub stop_at : Stepped → Registers → Memory → Outcome
stop_at answer s m = outcome answer s m

abbrev pub trap_at : TrapKind → Registers → Memory → Outcome
trap_at kind s m = stop_at (Trap kind) s m

abbrev pub retirement : Registers → Memory → Outcome
retirement s m = outcome Retired s m

-- the address of the next instruction
abbrev pub next_of : ℕ → ℕ
next_of pc = (pc + 4) % 2 ^ 32

-- a constant modulo 2 ^ 32
abbrev pub constant : ℤ → ℕ
constant imm = cast_unsigned w32 imm

-- pc goes to the next instruction, and nothing else changes
abbrev pub at_next : Registers → Registers
at_next s = record s { pc = next_of s.pc }

-- besides, register r gets a number
abbrev pub with_result : Registers → ℕ → ℕ → Registers
with_result s r n = record { x = with_register s.x r n; pc = next_of s.pc }

-- a number for rd
abbrev pub gives : Instr → ℕ → Registers → Memory → Outcome
gives i n s m = retirement (with_result s i.rd n) m

-- a jump, which keeps the address of the next instruction in rd. Its target is a multiple of 4.
unfoldable pub jumps : Instr → ℕ → Registers → Memory → Outcome
jumps i target s m =
    if target % 4 == 0
    then retirement (record { x = with_register s.x i.rd (next_of s.pc); pc = target }) m
    else trap_at JumpMisaligned s m

-- the target of `jalr`, whose bit 0 is cleared
abbrev pub register_target : Instr → Registers → ℕ
register_target i s = let sum = (register s i.rs1 + constant i.imm) % 2 ^ 32 in sum - sum % 2

-- a branch, whose target is a multiple of 4 where it is taken
unfoldable pub branches : Instr → Registers → Memory → Outcome
branches i s m =
    if taken_of i.op (register s i.rs1) (register s i.rs2)
    then (if jump_target s.pc i.imm % 4 == 0 then retirement (record s { pc = jump_target s.pc i.imm }) m else trap_at JumpMisaligned s m)
    else retirement (at_next s) m

-- the address of a load or a store
abbrev pub address_of : Instr → Registers → ℕ
address_of i s = (register s i.rs1 + constant i.imm) % 2 ^ 32

-- a load. Its address is a multiple of its width, and its bytes are all in memory.
unfoldable pub loads : Instr → Registers → Memory → Outcome
loads i s m =
    let a = address_of i s in
    let n = load_width i.op in
    if not (a % n == 0) then trap_at LoadMisaligned s m
    else (if not (is_inside m a n) then trap_at LoadOutside s m
    else gives i (extension_of i.op (value_at m a n)) s m)

-- a store of the low bytes of rs2, under the same conditions
unfoldable pub stores : Instr → Registers → Memory → Outcome
stores i s m =
    let a = address_of i s in
    let n = store_width i.op in
    if not (a % n == 0) then trap_at StoreMisaligned s m
    else (if not (is_inside m a n) then trap_at StoreOutside s m
    else retirement (at_next s) (write_at m a (le (register s i.rs2) n)))

-- an operation on two registers, and on a register and a constant
unfoldable pub computes : Instr → Registers → Memory → Outcome
computes i s m = gives i (result_of i.op (register s i.rs1) (register s i.rs2)) s m

unfoldable pub computes_with : Instr → Registers → Memory → Outcome
computes_with i s m = gives i (result_of i.op (register s i.rs1) (constant i.imm)) s m

-- an operation of M
unfoldable pub multiplies : Instr → Registers → Memory → Outcome
multiplies i s m = gives i (mul_div_of i.op (register s i.rs1) (register s i.rs2)) s m

-- what each operation does
unfoldable pub outcome_of : Op → Instr → Registers → Memory → Outcome
outcome_of Lui i s m = gives i (constant i.imm) s m
outcome_of Auipc i s m = gives i ((s.pc + constant i.imm) % 2 ^ 32) s m
outcome_of Jal i s m = jumps i (jump_target s.pc i.imm) s m
outcome_of Jalr i s m = jumps i (register_target i s) s m
outcome_of Beq i s m = branches i s m
outcome_of Bne i s m = branches i s m
outcome_of Blt i s m = branches i s m
outcome_of Bge i s m = branches i s m
outcome_of Bltu i s m = branches i s m
outcome_of Bgeu i s m = branches i s m
outcome_of Lb i s m = loads i s m
outcome_of Lh i s m = loads i s m
outcome_of Lw i s m = loads i s m
outcome_of Lbu i s m = loads i s m
outcome_of Lhu i s m = loads i s m
outcome_of Sb i s m = stores i s m
outcome_of Sh i s m = stores i s m
outcome_of Sw i s m = stores i s m
outcome_of Addi i s m = computes_with i s m
outcome_of Slti i s m = computes_with i s m
outcome_of Sltiu i s m = computes_with i s m
outcome_of Xori i s m = computes_with i s m
outcome_of Ori i s m = computes_with i s m
outcome_of Andi i s m = computes_with i s m
outcome_of Slli i s m = computes_with i s m
outcome_of Srli i s m = computes_with i s m
outcome_of Srai i s m = computes_with i s m
outcome_of Add i s m = computes i s m
outcome_of Sub i s m = computes i s m
outcome_of Sll i s m = computes i s m
outcome_of Slt i s m = computes i s m
outcome_of Sltu i s m = computes i s m
outcome_of Xor i s m = computes i s m
outcome_of Srl i s m = computes i s m
outcome_of Sra i s m = computes i s m
outcome_of Or i s m = computes i s m
outcome_of And i s m = computes i s m
outcome_of Fence i s m = retirement (at_next s) m
outcome_of FenceI i s m = retirement (at_next s) m
outcome_of Ecall i s m = stop_at EnvironmentCall s m
outcome_of Ebreak i s m = trap_at Breakpoint s m
outcome_of Mul i s m = multiplies i s m
outcome_of Mulh i s m = multiplies i s m
outcome_of Mulhsu i s m = multiplies i s m
outcome_of Mulhu i s m = multiplies i s m
outcome_of Div i s m = multiplies i s m
outcome_of Divu i s m = multiplies i s m
outcome_of Rem i s m = multiplies i s m
outcome_of Remu i s m = multiplies i s m

-- the word at an address, if its four bytes are all in memory
abbrev pub word_in : Memory → ℕ → Option ℕ
word_in m pc = if is_inside m pc 4 then Some (value_at m pc 4) else None

-- the instruction at an address, if there is one
abbrev pub instruction_at : Memory → ℕ → Option Instr
instruction_at m pc = option_and_then instr_of (word_in m pc)

-- the word at pc
abbrev pub word_at_pc : Registers → Memory → Option ℕ
word_at_pc s m = word_in m s.pc

abbrev pub after_decode : Option Instr → Registers → Memory → Outcome
after_decode None s m = trap_at Illegal s m
after_decode (Some i) s m = outcome_of i.op i s m

abbrev pub after_fetch : Option ℕ → Registers → Memory → Outcome
after_fetch None s m = trap_at FetchOutside s m
after_fetch (Some word) s m = after_decode (instr_of word) s m

-- the step
unfoldable pub step_of : Registers → Memory → Outcome
step_of s m = after_fetch (word_at_pc s m) s m
