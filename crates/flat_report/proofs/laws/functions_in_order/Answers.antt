use Rattle.flat_report.specs.Entries.{flat_comes_before, listed_functions}
use Rattle.flat_report.proofs.OrderLemmas.{moved_in_order, order_is_sorted}
use Rattle.flat_report.proofs.EntryOrder.{function_order}
use Rattle.flat_report.proofs.laws.functions_in_order.Goals as goal

pub returns-clause-all : goal.returns-clause-all
returns-clause-all c = λ s. moved_in_order (flat_comes_before s) (listed_functions s)

pub returns-clause-ascending : goal.returns-clause-ascending
returns-clause-ascending c = λ s. order_is_sorted (flat_comes_before s) (function_order s) (listed_functions s)
