use Rattle.profile_sum.proofs.LikeLemmas.{alike_joined}
use Rattle.profile_sum.proofs.laws.alike_are_joined.Goals as goal

pub returns : goal.returns
returns c = alike_joined
