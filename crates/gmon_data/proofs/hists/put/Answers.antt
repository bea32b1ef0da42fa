use Rattle.std.proofs.Common.{arith}
use Rattle.gmon_data.proofs.HistLemmas.{place-within, put-old, put-new, none_past_end, samples-at}
use Rattle.gmon_data.proofs.hists.put.Goals as goal

pub with_counters_of-sum-requires-clause-fits : goal.with_counters_of-sum-requires-clause-fits
with_counters_of-sum-requires-clause-fits c = grind (arith, samples-at)

pub insert-requires-clause-inside : goal.insert-requires-clause-inside
insert-requires-clause-inside c = omega (arith, c.place-i.ensures, place-within c.args.new.low c.args.hists.now)

pub returns-then-get-new-clause-added : goal.returns-then-get-new-clause-added
returns-then-get-new-clause-added c = grind (arith, put-old)

pub returns-in_ok-insert-clause-added : goal.returns-in_ok-insert-clause-added
returns-in_ok-insert-clause-added c = grind (arith, none_past_end, put-new)
