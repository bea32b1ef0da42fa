use Rattle.std.proofs.Common.{ℕ, ◌+◌, ◌*◌, ◌≤◌, List, length, sum, ap, arith}
use Rattle.gmon_data.specs.declared.hist.Hist.{Hist}
use Rattle.gmon_data.proofs.SizeLemmas.{more_bytes, one_hist, within_limits}
use Rattle.test_profiles.proofs.tests.contents.add_next.Goals as goal

pub add_wide-requires-clause-within : goal.add_wide-requires-clause-within
add_wide-requires-clause-within c = λ none.
    let h : Hist = c.in_ok-hist.hist in
    let one = ap (λ (l : List ℕ). length l) c.in_ok-hist.ensures.counters in
    let few : sum h.counters ≤ length h.counters * 65536 = omega (arith, one, ap sum c.in_ok-hist.ensures.counters) in
    within_limits (2 * c.args.k + 2 * length h.counters) _ (one_hist h c.seconds.result _ (2 * c.args.k) few c.requires.before) (omega (arith, one, c.requires.within, c.requires.few))

pub returns : goal.returns
returns c =
    let h : Hist = c.in_ok-hist.hist in
    let one = ap (λ (l : List ℕ). length l) c.in_ok-hist.ensures.counters in
    let few : sum h.counters ≤ length h.counters * 65536 = omega (arith, one, ap sum c.in_ok-hist.ensures.counters) in
    rw c.in_ok-add_wide.ensures.added (more_bytes (2 * c.args.k + 2 * length h.counters) (2 * (c.args.k + 1)) _ (omega (arith, one)) (one_hist h c.seconds.result _ (2 * c.args.k) few c.requires.before))
