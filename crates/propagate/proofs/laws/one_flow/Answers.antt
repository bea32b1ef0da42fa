use Rattle.propagate.proofs.SolutionLemmas.{solution}
use Rattle.propagate.proofs.UniqueLemmas.{one_flow}
use Rattle.propagate.proofs.laws.one_flow.Goals as goal

pub returns-clause-solved : goal.returns-clause-solved
returns-clause-solved c = solution

pub returns-clause-one : goal.returns-clause-one
returns-clause-one c = λ g shares t u is one two. one_flow g shares is t u one two
