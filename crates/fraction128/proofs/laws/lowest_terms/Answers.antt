use Rattle.fraction128.proofs.DivisorLemmas.{gcd_is, coprime_quotients}
use Rattle.fraction128.proofs.ValueLemmas.{lowest_is, one_lowest}
use Rattle.fraction128.proofs.laws.lowest_terms.Goals as goal

pub returns : goal.returns
returns c = record { divisor = gcd_is; value = lowest_is; lowest = coprime_quotients; one = one_lowest }
