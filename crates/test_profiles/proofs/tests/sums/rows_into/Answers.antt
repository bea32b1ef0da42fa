use Rattle.std.proofs.Common.{subst, sym}
use Rattle.gmon_data.specs.Content.{Content}
use Rattle.test_profiles.specs.Rows.{HasRows}
use Rattle.test_profiles.proofs.SumLemmas.{rows_sum_within}
use Rattle.test_profiles.proofs.tests.sums.rows_into.Goals as goal

pub add_into-requires : goal.add_into-requires
add_into-requires c = record { within = λ none. rows_sum_within _ _ (subst (λ (p : Content). HasRows 2000 2000 2000 p) (sym c.into_inner.ensures) c.requires.total) c.requires.more }
