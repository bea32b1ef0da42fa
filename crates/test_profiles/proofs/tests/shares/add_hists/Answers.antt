use Rattle.std.proofs.Common.{◌+◌, ◌*◌, ◌<◌, subst, sym, arith}
use Rattle.gmon_data.specs.Content.{Content}
use Rattle.test_profiles.specs.AtMost.{IsAtMost}
use Rattle.test_profiles.proofs.AtMostLemmas.{at_most_none, more_at_most, one_hist_more, within_at_most}
use Rattle.test_profiles.proofs.tests.shares.add_hists.Goals as goal
use Rattle.test_profiles.proofs.tests.shares.add_hists.Goals.{then-hist+in_ok-add_wide, else-hist}

pub loop-i-init : goal.loop-i-init
loop-i-init c = subst (λ (p : Content). IsAtMost p 0) (sym c.requires) at_most_none

pub add_wide-requires-clause-within : goal.add_wide-requires-clause-within
add_wide-requires-clause-within c = λ none.
    let i = c.loop-i.i in
    let few : i < 5 = omega (arith, c.loop-i-test.true, c.min-i-end.ensures) in
    within_at_most _ (4080 * i + 4080) (one_hist_more c.in_ok-hist.hist c.seconds.result c.loop-i.profile (4080 * i) 4080 c.loop-i.invariant c.in_ok-hist.ensures.samples (omega (arith, c.in_ok-hist.ensures.counters))) (omega arith)

pub loop-i-preserved : goal.loop-i-preserved
loop-i-preserved c =
    let i = c.loop-i.i in
    elim c.if-hist.branch [
      | then-hist+in_ok-add_wide w ↦ rw w.profile-is (more_at_most _ (4080 * i + 4080) (4080 * (i + 1)) (omega arith) (subst (λ (p : Content). IsAtMost p (4080 * i + 4080)) (sym w.in_ok-add_wide.ensures.added) (one_hist_more c.in_ok-hist.hist w.seconds.result c.loop-i.profile (4080 * i) 4080 c.loop-i.invariant c.in_ok-hist.ensures.samples (omega (arith, c.in_ok-hist.ensures.counters)))))
      | else-hist w ↦ rw w.profile-is (more_at_most c.loop-i.profile (4080 * i) (4080 * (i + 1)) (omega arith) c.loop-i.invariant)
    ]
