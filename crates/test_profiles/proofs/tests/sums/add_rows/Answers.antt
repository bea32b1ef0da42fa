use Rattle.test_profiles.proofs.SumLemmas.{rows_sum_within}
use Rattle.test_profiles.proofs.tests.sums.add_rows.Goals as goal

pub add_all-requires : goal.add_all-requires
add_all-requires c = record { within = λ none. rows_sum_within _ _ c.requires.total c.requires.more }
