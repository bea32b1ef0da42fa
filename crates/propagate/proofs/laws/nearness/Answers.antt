use Rattle.propagate.proofs.NearLemmas.{near_flow}
use Rattle.propagate.proofs.laws.nearness.Goals as goal

pub returns : goal.returns
returns c = λ g shares t x is flow exact. near_flow g shares is t flow x exact
