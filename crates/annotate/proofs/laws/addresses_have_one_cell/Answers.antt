use Rattle.std.proofs.Common.{arith}
use Rattle.annotate.proofs.laws.addresses_have_one_cell.Goals as goal

pub returns-clause-one : goal.returns-clause-one
returns-clause-one c = λ s x w from to. (λ within. omega (arith, from, to, within.0, within.1), λ is. (omega (arith, from, to, is), omega (arith, from, to, is)))

pub returns-clause-there : goal.returns-clause-there
returns-clause-there c = λ s x from to. (omega (arith, from, to), omega (arith, from, to))
