use Rattle.std.proofs.Common.{rules}
use Rattle.std.specs.Int.{w32}
use Rattle.std.specs.Int.RustNames.{FitsSigned}
use Rattle.std.proofs.lemmas.Int.{to_z-of_z}
use Rattle.rv_step.specs.Step.{computes_with}
use Rattle.rv_step.proofs.execution.compute_with.Goals as goal

pub returns : goal.returns
unfolding computes_with
returns c =
    λ m.
    let fits : FitsSigned w32 c.args.instr.now.imm = search rules in
    rw (c.computed-value.ensures, c.get.ensures.value, c.cast_unsigned.ensures, to_z-of_z w32 c.args.instr.now.imm fits, ← c.requires) at c.give.ensures m
