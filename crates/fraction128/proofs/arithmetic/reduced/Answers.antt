use Rattle.fraction128.proofs.DivisorLemmas.{coprime_quotients, lowest_some}
use Rattle.fraction128.proofs.arithmetic.reduced.Goals as goal

pub invariant_of-result : goal.invariant_of-result
invariant_of-result c = record {
  some = rw c.quotients-num.ensures.second (lowest_some c.args.num c.args.den c.requires);
  lowest = rw (c.quotients-num.ensures.first, c.quotients-num.ensures.second) (coprime_quotients c.args.num c.args.den c.requires);
}
