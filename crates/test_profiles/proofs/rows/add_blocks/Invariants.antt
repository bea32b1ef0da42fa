use Rattle.test_profiles.specs.Rows.{HasRows}
use Rattle.test_profiles.proofs.rows.add_blocks.Given as goal

abbrev pub invariant-loop-addr : goal.invariant-loop-addr
invariant-loop-addr l = HasRows 2000 2000 l.addr-index l.profile
