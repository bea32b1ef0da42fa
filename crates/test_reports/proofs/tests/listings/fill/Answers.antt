use Rattle.std.proofs.Common.{◌≡◌, ℕ, ◌+◌, ◌*◌, ◌<◌, ◌≤◌, nat_eq, length, take, subst, sym, arith}
use Rattle.std.proofs.lemmas.List.{length-take}
use Rattle.gmon_data.specs.Content.{Content, with_block}
use Rattle.gmon_data.proofs.BoundLemmas.{tally_at_most}
use Rattle.test_profiles.specs.AtMost.{IsAtMost}
use Rattle.test_profiles.proofs.AtMostLemmas.{at_most_none, one_hist_more, within_at_most}
use Rattle.gmon_data.proofs.TallyLemmas.{sum-tally}
use Rattle.test_reports.proofs.tests.listings.fill.Goals as goal

runs_more : (addr n : ℕ) (c : Content) (m : ℕ) → IsAtMost c m → n ≤ 1000 → IsAtMost (with_block addr n c) (m + 1000)
runs_more addr n c m a le = record {
  samples = omega (arith, a.samples);
  counters = omega (arith, a.counters);
  calls = omega (arith, a.calls);
  runs = omega (arith, a.runs, le, sum-tally nat_eq addr n c.blocks);
  pairs = omega (arith, a.pairs);
  addresses = omega (arith, a.addresses, tally_at_most nat_eq addr n c.blocks);
}

pub loop-addr-init : goal.loop-addr-init
loop-addr-init c = record {
  few = omega arith;
  within = subst (λ (p : Content). IsAtMost p 0) (sym c.requires.empty) at_most_none;
}

pub add_runs-requires : goal.add_runs-requires
add_runs-requires c =
    let i = c.loop-addr.addr-index in
    let runs : c.min-in-loop-addr.result ≤ 1000 = omega arith in
    within_at_most _ (1000 * i + 1000) (runs_more _ c.min-in-loop-addr.result c.loop-addr.profile (1000 * i) c.loop-addr.invariant.within runs) (omega (arith, c.loop-addr.invariant.few))

pub loop-addr-preserved : goal.loop-addr-preserved
loop-addr-preserved c =
    let i = c.loop-addr.addr-index in
    let all : i < length (take c.min.result c.args.runs.now) = c.loop-addr-test.true in
    let runs : c.min-in-loop-addr.result ≤ 1000 = omega arith in
    let more : 1000 * i + 1000 ≡ 1000 * (i + 1) = omega arith in
    record {
      few = omega (arith, all, length-take c.min.result c.args.runs.now);
      within =
          subst (λ (p : Content). IsAtMost p (1000 * (i + 1))) (sym c.in_ok-add_runs.ensures.added)
          (subst (IsAtMost _) more (runs_more _ c.min-in-loop-addr.result c.loop-addr.profile (1000 * i) c.loop-addr.invariant.within runs));
    }

pub add_wide-requires-clause-within : goal.add_wide-requires-clause-within
add_wide-requires-clause-within c = λ none.
    let i = c.loop-addr.addr-index in
    within_at_most _ (1000 * i + 4080) (one_hist_more c.args.hist.now c.seconds-unit.result c.loop-addr.profile (1000 * i) 4080 c.loop-addr.invariant.within c.requires.samples (omega (arith, c.requires.counters))) (omega (arith, c.loop-addr.invariant.few))
