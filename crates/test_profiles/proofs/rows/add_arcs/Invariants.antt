use Rattle.test_profiles.specs.Rows.{HasRows}
use Rattle.test_profiles.proofs.rows.add_arcs.Given as goal

abbrev pub invariant-loop-from : goal.invariant-loop-from
invariant-loop-from l = HasRows 2000 l.from-index 0 l.profile
