use Rattle.fraction128.proofs.OrderLemmas.{cmp_turned}
use Rattle.fraction128.proofs.order.turned.Goals as goal

pub returns-clause-order : goal.returns-clause-order
returns-clause-order c = cmp_turned c.args.r c.args.b c.args.s c.args.d
