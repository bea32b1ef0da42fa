use Rattle.std.proofs.Common.{◌+◌, subst, sym, arith}
use Rattle.gmon_data.specs.Content.{Content}
use Rattle.test_profiles.specs.AtMost.{IsAtMost}
use Rattle.test_profiles.proofs.AtMostLemmas.{at_most_none, more_at_most, one_call_more, within_at_most}
use Rattle.test_profiles.proofs.rings.add_ring.Goals as goal
use Rattle.test_profiles.proofs.rings.add_ring.Goals.{then-not-cut+in_ok-add_calls, else-not-cut+else-callee-lt65536}

pub loop-k-init : goal.loop-k-init
loop-k-init c = subst (λ (p : Content). IsAtMost p 0) (sym c.requires.empty) at_most_none

pub add_calls-requires : goal.add_calls-requires
add_calls-requires c = within_at_most _ (c.loop-k.k + 1) (one_call_more _ _ c.loop-k.profile c.loop-k.k c.loop-k.invariant) (omega arith)

pub loop-k-preserved : goal.loop-k-preserved
loop-k-preserved c =
    let k = c.loop-k.k in
    elim c.if-not-cut.branch [
      | then-not-cut+in_ok-add_calls w ↦ rw w.profile-is (subst (λ (p : Content). IsAtMost p (k + 1)) (sym w.in_ok-add_calls.ensures.added) (one_call_more _ _ c.loop-k.profile k c.loop-k.invariant))
      | else-not-cut+else-callee-lt65536 w ↦ rw w.profile-is (more_at_most c.loop-k.profile k (k + 1) (omega arith) c.loop-k.invariant)
    ]
