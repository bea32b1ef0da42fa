use Rattle.std.proofs.Common.{arith}
use Rattle.std.proofs.lemmas.Grind.{get_or_default_zero}
use Rattle.flat_report.proofs.CallLemmas.{none_counted, all_counted, counted_fits, counted_more}
use Rattle.flat_report.proofs.calls.calls_of_functions.Goals as goal

pub loop-i-init : goal.loop-i-init
loop-i-init c = none_counted _ _ c.in_ok-calls.ensures

pub overflow_add-index_mut : goal.overflow_add-index_mut
overflow_add-index_mut c = grind (arith, counted_fits, get_or_default_zero)

pub loop-i-preserved : goal.loop-i-preserved
loop-i-preserved c = grind (arith, get_or_default_zero, counted_more)

pub returns : goal.returns
returns c = all_counted _ _ _ c.loop-i.invariant (omega arith)
