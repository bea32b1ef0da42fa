use Rattle.profile_sum.proofs.addition.add_into.Goals as goal

pub returns-in-Ok-clause-added : goal.returns-in-Ok-clause-added
returns-in-Ok-clause-added c = c.in-Ok.ensures.added
