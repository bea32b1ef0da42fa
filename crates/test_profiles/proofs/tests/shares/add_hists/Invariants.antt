use Rattle.std.proofs.Common.{◌*◌}
use Rattle.test_profiles.specs.AtMost.{IsAtMost}
use Rattle.test_profiles.proofs.tests.shares.add_hists.Given as goal

abbrev pub invariant-loop-i : goal.invariant-loop-i
invariant-loop-i l = IsAtMost l.profile (4080 * l.i)
