use Rattle.std.proofs.Common.{arith}
use Rattle.fraction128.proofs.DivisorLemmas.{sum_den_some}
use Rattle.fraction128.proofs.fracs.Frac.add.Goals as goal

pub reduced-requires : goal.reduced-requires
reduced-requires c = grind (arith, sum_den_some)
