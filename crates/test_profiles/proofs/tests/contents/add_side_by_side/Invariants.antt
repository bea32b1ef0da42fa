use Rattle.std.proofs.Common.{◌*◌}
use Rattle.gmon_data.specs.Sizes.{IsOfBytes}
use Rattle.test_profiles.proofs.tests.contents.add_side_by_side.Given as goal

abbrev pub invariant-loop-k : goal.invariant-loop-k
invariant-loop-k l = IsOfBytes (2 * l.k) l.profile
