use Rattle.profile_sum.proofs.SplitLemmas.{parts_have_sum}
use Rattle.profile_sum.proofs.laws.parts_have_sum.Goals as goal

pub returns : goal.returns
returns c = parts_have_sum
