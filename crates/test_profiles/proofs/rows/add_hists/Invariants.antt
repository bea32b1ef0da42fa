use Rattle.test_profiles.specs.Rows.{HasRows}
use Rattle.test_profiles.proofs.rows.add_hists.Given as goal

abbrev pub invariant-loop-row : goal.invariant-loop-row
invariant-loop-row l = HasRows l.row-index 0 0 l.profile
