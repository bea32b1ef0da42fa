use Rattle.arc_filter.proofs.PairLemmas.{function_arcs_left, own_calls_left}
use Rattle.arc_filter.proofs.laws.calls_that_stay.Goals as goal

pub returns-clause-arcs : goal.returns-clause-arcs
returns-clause-arcs c = function_arcs_left

pub returns-clause-self_calls : goal.returns-clause-self_calls
returns-clause-self_calls c = own_calls_left
