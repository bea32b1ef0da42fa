use Rattle.arc_filter.proofs.ProfileLemmas.{nothing_cut, profile_left}
use Rattle.arc_filter.proofs.laws.profiles_stay.Goals as goal

pub returns-clause-profile : goal.returns-clause-profile
returns-clause-profile c = profile_left

pub returns-clause-whole : goal.returns-clause-whole
returns-clause-whole c = nothing_cut
