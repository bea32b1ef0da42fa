-- The three ends of a step.
use Rattle.std.proofs.Common.{◌≡◌, ℕ, Option, Some, None, ap, option_and_then, refl, ◌∙◌}
use Rattle.rv_decode.specs.declared.instruction.Instr.{Instr}
use Rattle.rv_decode.specs.Table.{instr_of}
use Rattle.rv_step.specs.declared.stepped.Stepped.TheVariants.{Trap}
use Rattle.rv_step.specs.declared.stepped.TrapKind.{TrapKind}
use Rattle.rv_step.specs.declared.stepped.TrapKind.TheVariants.{Illegal, FetchOutside}
use Rattle.rv_step.specs.Memory.{Memory}
use Rattle.rv_step.specs.Registers.{Registers}
use Rattle.rv_step.specs.Step.{Outcome, outcome_of, instruction_at, trap_at, word_at_pc, after_fetch, after_decode, step_of}

pub not_fetched : (s : Registers) (m : Memory) → word_at_pc s m ≡ None → step_of s m ≡ trap_at FetchOutside s m
unfolding step_of
not_fetched s m h = ap (λ (w : Option ℕ). after_fetch w s m) h

pub not_decoded : (s : Registers) (m : Memory) (word : ℕ) → word_at_pc s m ≡ Some word → instr_of word ≡ None → step_of s m ≡ trap_at Illegal s m
unfolding step_of
not_decoded s m word h none = ap (λ (w : Option ℕ). after_fetch w s m) h ∙ ap (λ (i : Option Instr). after_decode i s m) none

pub decoded : (s : Registers) (m : Memory) (word : ℕ) (i : Instr) → word_at_pc s m ≡ Some word → instr_of word ≡ Some i → step_of s m ≡ outcome_of i.op i s m
unfolding step_of
decoded s m word i h is = ap (λ (w : Option ℕ). after_fetch w s m) h ∙ ap (λ (i : Option Instr). after_decode i s m) is

-- where there is no instruction the step traps
pub no_instruction : (s : Registers) (m : Memory) → instruction_at m s.pc ≡ None → (kind : TrapKind) × ((step_of s m).answer ≡ Trap kind)
no_instruction s m none = by_word (word_at_pc s m) refl none
  where
    by_word : (o : Option ℕ) → word_at_pc s m ≡ o → option_and_then instr_of o ≡ None → (kind : TrapKind) × ((step_of s m).answer ≡ Trap kind)
    by_word None is fails = (FetchOutside, ap (λ (o : Outcome). o.answer) (not_fetched s m is))
    by_word (Some word) is fails = (Illegal, ap (λ (o : Outcome). o.answer) (not_decoded s m word is fails))
