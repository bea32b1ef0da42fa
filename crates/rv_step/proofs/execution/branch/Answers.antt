use Rattle.std.proofs.Common.{sym, ◌∙◌}
use Rattle.rv_step.proofs.Branching.{not_taken}
use Rattle.rv_step.proofs.execution.branch.Goals as goal

pub returns-then-not-is_taken : goal.returns-then-not-is_taken
returns-then-not-is_taken c =
    λ m.
    let taken = rw (c.get.ensures.value, c.get-2.ensures.value, ← c.requires) at c.is_taken.ensures in
    c.pass.ensures m ∙ sym (not_taken c.args.instr.now c.args.regs.now m (sym taken ∙ c.if-not-is_taken.true))
