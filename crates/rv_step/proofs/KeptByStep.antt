-- What a step keeps.
use Rattle.std.proofs.Common.{◌≡◌, ℕ, ◌%◌, ◌⊎◌, inl, inr, Bool, true, false, cond, eqb, List, refl, arith}
use Rattle.std.proofs.lemmas.Bool.Decides.{nat_tests}
use Rattle.rv_decode.specs.declared.instruction.Op.{Op}
use Rattle.rv_decode.specs.declared.instruction.Op.TheVariants.{Lui, Auipc, Jal, Jalr, Beq, Bne, Blt, Bge, Bltu, Bgeu, Lb, Lh, Lw, Lbu, Lhu, Sb, Sh, Sw, Addi, Slti, Sltiu, Xori, Ori, Andi, Slli, Srli, Srai, Add, Sub, Sll, Slt, Sltu, Xor, Srl, Sra, Or, And, Fence, FenceI, Ecall, Ebreak, Mul, Mulh, Mulhsu, Mulhu, Div, Divu, Rem, Remu}
use Rattle.rv_decode.specs.declared.instruction.Instr.{Instr}
use Rattle.rv_decode.specs.Fields.{jump_target}
use Rattle.rv_step.specs.declared.stepped.Stepped.{Stepped}
use Rattle.rv_step.specs.declared.stepped.Stepped.TheVariants.{Retired, Trap, Ecall as EnvironmentCall}
use Rattle.rv_step.specs.declared.stepped.TrapKind.TheVariants.{Breakpoint, JumpMisaligned}
use Rattle.rv_step.specs.Memory.{Memory}
use Rattle.rv_step.specs.Registers.{Registers, with_register}
use Rattle.rv_step.specs.Step.{Outcome, stop_at, trap_at, next_of, retirement, register_target, jumps, branches, loads, stores, computes, computes_with, multiplies, outcome_of}

-- an outcome after these registers and this memory: only a retired instruction changes them, and pc stays a multiple of 4
pub record Keeps (s : Registers) (m : Memory) (o : Outcome) : Type 0 where
  pub unchanged : (o.answer ≡ Retired) ⊎ ((o.registers ≡ s) × (o.memory ≡ m))
  pub aligned : s.pc % 4 ≡ 0 → o.registers.pc % 4 ≡ 0

pub keeps_stopped : (answer : Stepped) (s : Registers) (m : Memory) → Keeps s m (stop_at answer s m)
keeps_stopped answer s m = record { unchanged = inr (refl, refl); aligned = λ h. h }

keeps_next : (s : Registers) (m after : Memory) (x : List ℕ) → Keeps s m (retirement (record { x = x; pc = next_of s.pc }) after)
keeps_next s m after x = record { unchanged = inl refl; aligned = λ h. omega arith }

keeps_if : (b : Bool) (s : Registers) (m : Memory) (o p : Outcome) → Keeps s m o → Keeps s m p → Keeps s m (cond b o p)
keeps_if true s m o p h k = h
keeps_if false s m o p h k = k

keeps_target : (b : Bool) (s : Registers) (m : Memory) (x : List ℕ) (target : ℕ) → (b ≡ true → target % 4 ≡ 0) → Keeps s m (cond b (retirement (record { x = x; pc = target }) m) (trap_at JumpMisaligned s m))
keeps_target true s m x target h = record { unchanged = inl refl; aligned = λ _. h refl }
keeps_target false s m x target h = keeps_stopped (Trap JumpMisaligned) s m

is_multiple : (n : ℕ) → eqb (n % 4) 0 ≡ true → n % 4 ≡ 0
is_multiple n h = grind (arith, nat_tests)

keeps_jumps : (i : Instr) (target : ℕ) (s : Registers) (m : Memory) → Keeps s m (jumps i target s m)
unfolding jumps
keeps_jumps i target s m = keeps_target (eqb (target % 4) 0) s m (with_register s.x i.rd (next_of s.pc)) target (is_multiple target)

keeps_branches : (i : Instr) (s : Registers) (m : Memory) → Keeps s m (branches i s m)
unfolding branches
keeps_branches i s m = search (keeps_if, keeps_target, eqb, is_multiple, keeps_next)

keeps_loads : (i : Instr) (s : Registers) (m : Memory) → Keeps s m (loads i s m)
unfolding loads
keeps_loads i s m = search (keeps_if, eqb, keeps_stopped, keeps_next)

keeps_stores : (i : Instr) (s : Registers) (m : Memory) → Keeps s m (stores i s m)
unfolding stores
keeps_stores i s m = search (keeps_if, eqb, keeps_stopped, keeps_next)

keeps_computes : (i : Instr) (s : Registers) (m : Memory) → Keeps s m (computes i s m)
unfolding computes
keeps_computes i s m = keeps_next s m m _

keeps_computes_with : (i : Instr) (s : Registers) (m : Memory) → Keeps s m (computes_with i s m)
unfolding computes_with
keeps_computes_with i s m = keeps_next s m m _

keeps_multiplies : (i : Instr) (s : Registers) (m : Memory) → Keeps s m (multiplies i s m)
unfolding multiplies
keeps_multiplies i s m = keeps_next s m m _

pub keeps_executed : (op : Op) (i : Instr) (s : Registers) (m : Memory) → Keeps s m (outcome_of op i s m)
unfolding outcome_of
keeps_executed Lui i s m = keeps_next s m m _
keeps_executed Auipc i s m = keeps_next s m m _
keeps_executed Jal i s m = keeps_jumps i (jump_target s.pc i.imm) s m
keeps_executed Jalr i s m = keeps_jumps i (register_target i s) s m
keeps_executed Beq i s m = keeps_branches i s m
keeps_executed Bne i s m = keeps_branches i s m
keeps_executed Blt i s m = keeps_branches i s m
keeps_executed Bge i s m = keeps_branches i s m
keeps_executed Bltu i s m = keeps_branches i s m
keeps_executed Bgeu i s m = keeps_branches i s m
keeps_executed Lb i s m = keeps_loads i s m
keeps_executed Lh i s m = keeps_loads i s m
keeps_executed Lw i s m = keeps_loads i s m
keeps_executed Lbu i s m = keeps_loads i s m
keeps_executed Lhu i s m = keeps_loads i s m
keeps_executed Sb i s m = keeps_stores i s m
keeps_executed Sh i s m = keeps_stores i s m
keeps_executed Sw i s m = keeps_stores i s m
keeps_executed Addi i s m = keeps_computes_with i s m
keeps_executed Slti i s m = keeps_computes_with i s m
keeps_executed Sltiu i s m = keeps_computes_with i s m
keeps_executed Xori i s m = keeps_computes_with i s m
keeps_executed Ori i s m = keeps_computes_with i s m
keeps_executed Andi i s m = keeps_computes_with i s m
keeps_executed Slli i s m = keeps_computes_with i s m
keeps_executed Srli i s m = keeps_computes_with i s m
keeps_executed Srai i s m = keeps_computes_with i s m
keeps_executed Add i s m = keeps_computes i s m
keeps_executed Sub i s m = keeps_computes i s m
keeps_executed Sll i s m = keeps_computes i s m
keeps_executed Slt i s m = keeps_computes i s m
keeps_executed Sltu i s m = keeps_computes i s m
keeps_executed Xor i s m = keeps_computes i s m
keeps_executed Srl i s m = keeps_computes i s m
keeps_executed Sra i s m = keeps_computes i s m
keeps_executed Or i s m = keeps_computes i s m
keeps_executed And i s m = keeps_computes i s m
keeps_executed Fence i s m = keeps_next s m m _
keeps_executed FenceI i s m = keeps_next s m m _
keeps_executed Ecall i s m = keeps_stopped EnvironmentCall s m
keeps_executed Ebreak i s m = keeps_stopped (Trap Breakpoint) s m
keeps_executed Mul i s m = keeps_multiplies i s m
keeps_executed Mulh i s m = keeps_multiplies i s m
keeps_executed Mulhsu i s m = keeps_multiplies i s m
keeps_executed Mulhu i s m = keeps_multiplies i s m
keeps_executed Div i s m = keeps_multiplies i s m
keeps_executed Divu i s m = keeps_multiplies i s m
keeps_executed Rem i s m = keeps_multiplies i s m
keeps_executed Remu i s m = keeps_multiplies i s m
