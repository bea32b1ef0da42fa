use Rattle.std.proofs.Common.{◌≡◌, ◌*◌, ◌≤◌, length, sum}
use Rattle.test_profiles.proofs.samples.hist_of.Given as goal

abbrev pub invariant-loop-count : goal.invariant-loop-count
invariant-loop-count l = record {
  counters : length l.counters ≡ l.count-index;
  samples : sum l.counters ≤ 255 * length l.counters;
}
