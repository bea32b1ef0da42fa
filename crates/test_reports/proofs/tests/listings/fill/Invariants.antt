use Rattle.std.proofs.Common.{◌*◌, ◌≤◌}
use Rattle.test_profiles.specs.AtMost.{IsAtMost}
use Rattle.test_reports.proofs.tests.listings.fill.Given as goal

abbrev pub invariant-loop-addr : goal.invariant-loop-addr
invariant-loop-addr l = record {
  few : l.addr-index ≤ 8;
  within : IsAtMost l.profile (1000 * l.addr-index);
}
