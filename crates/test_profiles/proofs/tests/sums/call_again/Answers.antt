use Rattle.std.proofs.Common.{arith}
use Rattle.test_profiles.proofs.AtMostLemmas.{one_call_more, within_at_most}
use Rattle.test_profiles.proofs.tests.sums.call_again.Goals as goal

pub add_calls-requires : goal.add_calls-requires
add_calls-requires c = within_at_most _ 200001 (one_call_more _ _ c.args.profile.now 200000 c.requires) (omega arith)
