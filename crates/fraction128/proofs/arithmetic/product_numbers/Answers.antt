use Rattle.std.proofs.Common.{arith}
use Rattle.fraction128.proofs.DivisorLemmas.{crossed}
use Rattle.fraction128.proofs.arithmetic.product_numbers.Goals as goal

pub returns-in_err-num-clause-fits : goal.returns-in_err-num-clause-fits
returns-in_err-num-clause-fits c = grind (arith, crossed)

pub returns-in_err-den-clause-fits : goal.returns-in_err-den-clause-fits
returns-in_err-den-clause-fits c = grind (arith, crossed)

pub returns-clause-num : goal.returns-clause-num
returns-clause-num c = grind (arith, crossed)

pub returns-clause-den : goal.returns-clause-den
returns-clause-den c = grind (arith, crossed)

pub returns-clause-fits : goal.returns-clause-fits
returns-clause-fits c = grind (arith, crossed)
