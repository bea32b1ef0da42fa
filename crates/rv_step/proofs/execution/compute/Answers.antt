use Rattle.rv_step.specs.Step.{computes}
use Rattle.rv_step.proofs.execution.compute.Goals as goal

pub returns : goal.returns
unfolding computes
returns c = λ m. rw (c.computed-value.ensures, c.get.ensures.value, c.get-2.ensures.value, ← c.requires) at c.give.ensures m
