use Rattle.std.proofs.Common.{◌+◌, ◌*◌, subst, sym, arith}
use Rattle.gmon_data.specs.Content.{Content}
use Rattle.test_profiles.specs.AtMost.{IsAtMost}
use Rattle.test_profiles.proofs.AtMostLemmas.{at_most_none, more_at_most, one_call_more, one_run_more, within_at_most}
use Rattle.test_profiles.proofs.tests.sums.add_called.Goals as goal

pub loop-i-init : goal.loop-i-init
loop-i-init c = subst (λ (p : Content). IsAtMost p 0) (sym c.requires) at_most_none

pub add_calls-requires : goal.add_calls-requires
add_calls-requires c = within_at_most _ (2 * c.loop-i.i + 1) (one_call_more _ _ c.loop-i.profile (2 * c.loop-i.i) c.loop-i.invariant) (omega (arith, c.loop-i-test.true))

pub add_runs-requires : goal.add_runs-requires
add_runs-requires c =
    let k = 2 * c.loop-i.i in
    let one = subst (λ (p : Content). IsAtMost p (k + 1)) (sym c.in_ok-add_calls.ensures.added) (one_call_more _ _ c.loop-i.profile k c.loop-i.invariant) in
    within_at_most _ (k + 1 + 1) (one_run_more _ c.add_calls.new.self (k + 1) one) (omega (arith, c.loop-i-test.true))

pub loop-i-preserved : goal.loop-i-preserved
loop-i-preserved c =
    let k = 2 * c.loop-i.i in
    let one = subst (λ (p : Content). IsAtMost p (k + 1)) (sym c.in_ok-add_calls.ensures.added) (one_call_more _ _ c.loop-i.profile k c.loop-i.invariant) in
    let two = subst (λ (p : Content). IsAtMost p (k + 1 + 1)) (sym c.in_ok-add_runs.ensures.added) (one_run_more _ c.add_calls.new.self (k + 1) one) in
    more_at_most _ (k + 1 + 1) (2 * (c.loop-i.i + 1)) (omega arith) two
