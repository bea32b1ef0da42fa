use Rattle.std.proofs.Common.{unwrap_or, rules}
use Rattle.gmon_data.proofs.TallyLemmas.{insert-tally, lookup-within}
use Rattle.gmon_data.proofs.tally.Tally.add.Goals as goal

pub overflow_add-number : goal.overflow_add-number
overflow_add-number g c = search (unwrap_or, lookup-within, rules)

pub returns-clause-added : goal.returns-clause-added
returns-clause-added g c = search (unwrap_or, insert-tally, rules)
