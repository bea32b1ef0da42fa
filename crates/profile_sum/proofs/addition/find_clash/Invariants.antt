use Rattle.std.proofs.Common.{◌≡◌, drop}
use Rattle.profile_sum.specs.Sum.{clash_of}
use Rattle.profile_sum.proofs.ClashLemmas.{first_clash}
use Rattle.profile_sum.proofs.addition.find_clash.Given as goal

abbrev pub invariant-loop-i : goal.invariant-loop-i
invariant-loop-i l = clash_of l.total l.more ≡ first_clash l.total l.«unit» (drop l.i l.more.hists)
