use Rattle.rv_step.proofs.execution.give.Goals as goal

pub returns : goal.returns
returns c = λ m. rw (c.set.ensures.x, c.set.ensures.pc) at c.pass.ensures m
