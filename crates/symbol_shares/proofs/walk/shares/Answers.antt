use Rattle.std.proofs.Common.{arith}
use Rattle.std.proofs.lemmas.List.{length-map}
use Rattle.std.proofs.lemmas.List.Sums.{sum-map}
use Rattle.symbol_shares.proofs.SumLemmas.{hists-within}
use Rattle.symbol_shares.proofs.walk.shares.Goals as goal

pub total-attributed-requires : goal.total-attributed-requires
total-attributed-requires c = grind (arith, hists-within, sum-map)

pub overflow_sub-outside : goal.overflow_sub-outside
overflow_sub-outside c = grind (arith, hists-within, sum-map)

pub new-requires-clause-count : goal.new-requires-clause-count
new-requires-clause-count c = grind (arith, length-map)

pub new-requires-clause-within : goal.new-requires-clause-within
new-requires-clause-within c = grind (arith, hists-within, sum-map)

pub returns-clause-whole : goal.returns-clause-whole
returns-clause-whole c = grind (arith, hists-within, sum-map)
