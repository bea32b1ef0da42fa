-- The two instructions that pass.
use Rattle.std.proofs.Common.{◌≡◌, ◌⊎◌, inl, inr, refl}
use Rattle.rv_decode.specs.declared.instruction.Op.{Op}
use Rattle.rv_decode.specs.declared.instruction.Op.TheVariants.{Fence, FenceI}
use Rattle.rv_decode.specs.declared.instruction.Instr.{Instr}
use Rattle.rv_step.specs.Memory.{Memory}
use Rattle.rv_step.specs.Registers.{Registers}
use Rattle.rv_step.specs.Step.{outcome_of, retirement, at_next}

pub passes_is : (o : Op) (i : Instr) (s : Registers) (m : Memory) → (o ≡ Fence) ⊎ (o ≡ FenceI) → retirement (at_next s) m ≡ outcome_of o i s m
unfolding outcome_of
passes_is o i s m (inl h) = rw h refl
passes_is o i s m (inr h) = rw h refl
