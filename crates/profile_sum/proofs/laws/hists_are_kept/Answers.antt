use Rattle.profile_sum.proofs.SplitLemmas.{hists_kept}
use Rattle.profile_sum.proofs.laws.hists_are_kept.Goals as goal

pub returns : goal.returns
returns c = hists_kept
