use Rattle.std.proofs.Common.{arith}
use Rattle.test_profiles.proofs.SumLemmas.{small_sum_within}
use Rattle.test_profiles.proofs.tests.sums.add_more.Goals as goal

pub add_all-requires : goal.add_all-requires
add_all-requires c = record { within = λ none. small_sum_within _ _ 200000 200000 c.requires.total c.requires.more (omega arith) }
