use Rattle.std.proofs.Common.{sym, arith}
use Rattle.std.proofs.lemmas.List.Sums.{get_or-le-sum_by}
use Rattle.gmon_data.proofs.CounterLemmas.{sum-none, pointwise-at, pointwise-set, length-pointwise-take}
use Rattle.gmon_data.proofs.hist.add_counters.Goals as goal

pub loop-i-init : goal.loop-i-init
loop-i-init c = sym (sum-none c.args.counters.now)

pub bounds-as_slice-i : goal.bounds-as_slice-i
bounds-as_slice-i c = grind (arith, length-pointwise-take)

pub overflow_add-total : goal.overflow_add-total
overflow_add-total c = grind (arith, pointwise-at, get_or-le-sum_by)

pub set-requires : goal.set-requires
set-requires c = grind (arith, length-pointwise-take)

pub loop-i-preserved : goal.loop-i-preserved
loop-i-preserved c = grind (arith, pointwise-at, pointwise-set)
