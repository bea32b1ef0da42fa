use Rattle.std.proofs.Common.{rules, sym, ap, ◌∙◌}
use Rattle.std.specs.Int.{w32}
use Rattle.std.specs.Int.RustNames.{FitsSigned}
use Rattle.std.proofs.lemmas.Int.{to_z-of_z}
use Rattle.rv_decode.specs.declared.instruction.Op.{Op}
use Rattle.rv_step.specs.Step.{outcome_of}
use Rattle.rv_step.proofs.OperationLemmas.{passes_is}
use Rattle.rv_step.proofs.execution.execute.Goals as goal

pub returns-in-Lui-clause-outcome : goal.returns-in-Lui-clause-outcome
unfolding outcome_of
returns-in-Lui-clause-outcome c =
    let fits : FitsSigned w32 c.args.instr.now.imm = search rules in
    rw (c.cast_unsigned.ensures, to_z-of_z w32 c.args.instr.now.imm fits) at c.give.ensures c.args.ram.now
    ∙ ap (λ (o : Op). outcome_of o c.args.instr.now c.args.regs.now c.args.ram.now) (sym c.in-Lui.is)

pub returns-in-Auipc-clause-outcome : goal.returns-in-Auipc-clause-outcome
unfolding outcome_of
returns-in-Auipc-clause-outcome c =
    let fits : FitsSigned w32 c.args.instr.now.imm = search rules in
    rw (c.target.ensures, c.pc.ensures, to_z-of_z w32 c.args.instr.now.imm fits) at c.give-in-Auipc.ensures c.args.ram.now
    ∙ ap (λ (o : Op). outcome_of o c.args.instr.now c.args.regs.now c.args.ram.now) (sym c.in-Auipc.is)

pub returns-in-Fence-clause-outcome : goal.returns-in-Fence-clause-outcome
returns-in-Fence-clause-outcome c =
    c.pass.ensures c.args.ram.now ∙ passes_is c.args.instr.now.op c.args.instr.now c.args.regs.now c.args.ram.now c.in-Fence.is
