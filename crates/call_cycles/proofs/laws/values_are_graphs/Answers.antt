use Rattle.call_cycles.proofs.ValueLemmas.{value_is_graph, only_value, profile_is_graph}
use Rattle.call_cycles.proofs.laws.values_are_graphs.Goals as goal

pub returns : goal.returns
returns c = record { graph = value_is_graph; profile = profile_is_graph; only = only_value }
