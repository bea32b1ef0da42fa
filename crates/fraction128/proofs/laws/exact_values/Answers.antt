use Rattle.std.proofs.Math.Nat.{mul-pos}
use Rattle.fraction128.proofs.ValueLemmas.{lowest_is, exact_sum}
use Rattle.fraction128.proofs.laws.exact_values.Goals as goal

pub returns-clause-sums : goal.returns-clause-sums
returns-clause-sums c = exact_sum

pub returns-clause-products : goal.returns-clause-products
returns-clause-products c = λ f h some_f some_h. lowest_is _ _ (mul-pos some_f some_h)
