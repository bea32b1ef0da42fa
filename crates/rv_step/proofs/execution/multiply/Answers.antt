use Rattle.rv_step.specs.Step.{multiplies}
use Rattle.rv_step.proofs.execution.multiply.Goals as goal

pub returns : goal.returns
unfolding multiplies
returns c = λ m. rw (c.multiplied-value.ensures, c.get.ensures.value, c.get-2.ensures.value, ← c.requires) at c.give.ensures m
