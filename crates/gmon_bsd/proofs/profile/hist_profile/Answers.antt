use Rattle.std.proofs.Common.{sym, subst, arith}
use Rattle.gmon_data.specs.Content.{Content, IsWithin, with_hist}
use Rattle.gmon_data.specs.declared.hist.Hist.{Hist}
use Rattle.gp_base.specs.Fields.{seconds}
use Rattle.gmon_bsd.specs.Profile.{IsOfRun}
use Rattle.gmon_bsd.proofs.ProfileLemmas.{one_hist, within_bounds}
use Rattle.gmon_bsd.proofs.profile.hist_profile.Goals as goal

pub add_wide-requires-clause-within : goal.add_wide-requires-clause-within
add_wide-requires-clause-within c = λ _.
    let hist : Hist = record { low = c.sizes-sizes.result.low; high = c.sizes-sizes.result.high; counters = c.in_ok-counters_of.field-0 } in
    subst (λ (p : Content). IsWithin (with_hist hist (seconds c.args.rate) p)) (sym c.new-profile.ensures.content)
    (within_bounds 0 _ (omega arith) (one_hist hist (seconds c.args.rate) c.in_ok-counters_of.ensures.small c.in_ok-counters_of.ensures.few))

pub returns-in-Ok-clause-bounds : goal.returns-in-Ok-clause-bounds
returns-in-Ok-clause-bounds c =
    let hist : Hist = record { low = c.sizes-sizes.result.low; high = c.sizes-sizes.result.high; counters = c.in_ok-counters_of.field-0 } in
    subst (IsOfRun 0) (sym c.in-Ok.ensures.added)
    (subst (λ (p : Content). IsOfRun 0 (with_hist hist (seconds c.args.rate) p)) (sym c.new-profile.ensures.content)
    (one_hist hist (seconds c.args.rate) c.in_ok-counters_of.ensures.small c.in_ok-counters_of.ensures.few))
