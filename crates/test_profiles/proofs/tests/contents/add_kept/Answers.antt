use Rattle.std.proofs.Common.{◌≤◌, ◌+◌, ◌*◌, length, sum, subst, sym, arith}
use Rattle.gmon_data.specs.declared.hist.Hist.{Hist}
use Rattle.gmon_data.specs.Content.{Content}
use Rattle.gmon_data.specs.Sizes.{IsOfBytes}
use Rattle.gmon_data.proofs.SizeLemmas.{more_bytes, of_nothing, one_hist, within_limits}
use Rattle.test_profiles.proofs.tests.contents.add_kept.Goals as goal

pub add_wide-requires-clause-within : goal.add_wide-requires-clause-within
add_wide-requires-clause-within c = λ none.
    let h : Hist = c.in_ok-hist.hist in
    let few : sum h.counters ≤ length h.counters * 65536 = omega (arith, c.in_ok-hist.ensures.samples) in
    let new : IsOfBytes 0 c.args.profile.now = subst (λ (p : Content). IsOfBytes 0 p) (sym c.requires) of_nothing in
    within_limits (0 + 2 * length h.counters) _ (one_hist h c.seconds.result c.args.profile.now 0 few new) (omega (arith, c.in_ok-hist.ensures.counters))

pub returns : goal.returns
returns c =
    let h : Hist = c.in_ok-hist.hist in
    let few : sum h.counters ≤ length h.counters * 65536 = omega (arith, c.in_ok-hist.ensures.samples) in
    let new : IsOfBytes 0 c.args.profile.now = subst (λ (p : Content). IsOfBytes 0 p) (sym c.requires) of_nothing in
    rw c.in_ok-add_wide.ensures.added (more_bytes (0 + 2 * length h.counters) 510 _ (omega (arith, c.in_ok-hist.ensures.counters)) (one_hist h c.seconds.result c.args.profile.now 0 few new))
