use Rattle.std.proofs.Common.{refl}
use Rattle.arc_filter.specs.Cuts.{without_cuts}
use Rattle.arc_filter.proofs.laws.times_stay.Goals as goal

pub returns : goal.returns
unfolding without_cuts
returns c = λ p symbols cuts. refl
