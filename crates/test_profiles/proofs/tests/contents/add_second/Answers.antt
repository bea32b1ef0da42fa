use Rattle.std.proofs.Common.{◌≤◌, ◌+◌, ◌*◌, length, sum, arith}
use Rattle.gmon_data.specs.declared.hist.Hist.{Hist}
use Rattle.gmon_data.proofs.SizeLemmas.{one_hist, within_limits}
use Rattle.test_profiles.proofs.tests.contents.add_second.Goals as goal

pub add_wide-requires-clause-within : goal.add_wide-requires-clause-within
add_wide-requires-clause-within c = λ none.
    let h : Hist = c.in_ok-hist.hist in
    let few : sum h.counters ≤ length h.counters * 65536 = omega (arith, c.in_ok-hist.ensures.samples) in
    within_limits (510 + 2 * length h.counters) _ (one_hist h c.args.«unit» _ 510 few c.requires.first) (omega (arith, c.in_ok-hist.ensures.counters))
