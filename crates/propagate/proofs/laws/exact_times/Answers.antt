use Rattle.propagate.proofs.ExactLemmas.{same_times}
use Rattle.propagate.proofs.laws.exact_times.Goals as goal

pub returns-clause-same : goal.returns-clause-same
returns-clause-same c = λ g shares x y is one two. same_times g shares is x y one two
