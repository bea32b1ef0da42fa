use Rattle.std.proofs.Common.{refl}
use Rattle.symbol_shares.proofs.RangeLemmas.{ranges-follow}
use Rattle.symbol_shares.proofs.laws.ranges_add_up.Goals as goal

pub returns-clause-follow : goal.returns-clause-follow
returns-clause-follow c = ranges-follow

pub returns-clause-share : goal.returns-clause-share
returns-clause-share c = λ hists s. refl
