-- Cases of a branch.
use Rattle.std.proofs.Common.{◌≡◌, false, refl}
use Rattle.rv_decode.specs.declared.instruction.Instr.{Instr}
use Rattle.rv_step.specs.Alu.{taken_of}
use Rattle.rv_step.specs.Memory.{Memory}
use Rattle.rv_step.specs.Registers.{Registers, register}
use Rattle.rv_step.specs.Step.{branches, retirement, at_next}

pub not_taken : (i : Instr) (s : Registers) (m : Memory) → taken_of i.op (register s i.rs1) (register s i.rs2) ≡ false → branches i s m ≡ retirement (at_next s) m
unfolding branches
not_taken i s m h = rw h refl
