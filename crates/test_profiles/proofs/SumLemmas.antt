-- What a sum holds at most.
use Rattle.std.proofs.Common.{◌≡◌, ℕ, ◌+◌, ◌^◌, ◌<◌, ◌≤◌, Bool, nat_eq, List, [], ◌∷◌, length, fold, sum, arith}
use Rattle.std.specs.List.{sum_by}
use Rattle.std.proofs.lemmas.List.Sums.{sum_by-cons}
use Rattle.gmon_data.specs.declared.hist.Hist.{Hist}
use Rattle.gmon_data.specs.Hists.{put_hist, samples_of}
use Rattle.gmon_data.specs.Tally.{tally, tally_total}
use Rattle.gmon_data.specs.Content.{Content, same_ends, IsWithin}
use Rattle.gmon_data.proofs.TallyLemmas.{sum-tally}
use Rattle.gmon_data.proofs.HistLemmas.{samples-put}
use Rattle.gmon_data.proofs.BoundLemmas.{counters_at_most, tally_at_most}
use Rattle.profile_sum.specs.Sum.{sum_of}
use Rattle.test_profiles.specs.AtMost.{IsAtMost}
use Rattle.test_profiles.specs.Rows.{HasRows}

abbrev counters_of : List Hist → ℕ
counters_of hs = sum_by (λ h. length h.counters) hs

samples_added : (hs done : List Hist) → samples_of (fold (λ done h. put_hist h done) done hs) ≡ samples_of done + samples_of hs
samples_added [] done = omega arith
samples_added (h ∷ hs) done = omega (arith, samples_added hs (put_hist h done), samples-put h done, sum_by-cons (λ (k : Hist). sum k.counters) h hs)

counters_added : (hs done : List Hist) → counters_of (fold (λ done h. put_hist h done) done hs) ≤ counters_of done + counters_of hs
counters_added [] done = omega arith
counters_added (h ∷ hs) done = omega (arith, counters_added hs (put_hist h done), counters_at_most h done, sum_by-cons (λ (k : Hist). length k.counters) h hs)

total_added : {K : Type 0} (same : K → K → Bool) (es done : List (K × ℕ)) → tally_total (fold (λ done e. tally same e.0 e.1 done) done es) ≡ tally_total done + tally_total es
total_added same [] done = omega arith
total_added {K} same (e ∷ es) done = omega (arith, total_added same es (tally same e.0 e.1 done), sum-tally same e.0 e.1 done, sum_by-cons (λ (x : K × ℕ). x.1) e es)

entries_added : {K : Type 0} (same : K → K → Bool) (es done : List (K × ℕ)) → length (fold (λ done e. tally same e.0 e.1 done) done es) ≤ length done + length es
entries_added same [] done = omega arith
entries_added same (e ∷ es) done = omega (arith, entries_added same es (tally same e.0 e.1 done), tally_at_most same e.0 e.1 done)

-- a sum is within the bounds where the numbers of both are together
sum_within : (p q : Content) → samples_of p.hists + samples_of q.hists < 2 ^ 45 → counters_of p.hists + counters_of q.hists < 2 ^ 26
    → tally_total p.arcs + tally_total q.arcs < 2 ^ 59 → tally_total p.blocks + tally_total q.blocks < 2 ^ 59
    → length p.arcs + length q.arcs < 2 ^ 26 → length p.blocks + length q.blocks < 2 ^ 26 → IsWithin (sum_of p q)
sum_within p q samples counters calls runs pairs addresses = record {
  samples = omega (arith, samples, samples_added q.hists p.hists);
  counters = omega (arith, counters, counters_added q.hists p.hists);
  calls = omega (arith, calls, total_added same_ends q.arcs p.arcs);
  runs = omega (arith, runs, total_added nat_eq q.blocks p.blocks);
  pairs = omega (arith, pairs, entries_added same_ends q.arcs p.arcs);
  addresses = omega (arith, addresses, entries_added nat_eq q.blocks p.blocks);
}

-- ---- for profiles of at most so many of each

pub small_sum_within : (p q : Content) (n m : ℕ) → IsAtMost p n → IsAtMost q m → n + m < 2 ^ 26 → IsWithin (sum_of p q)
small_sum_within p q n m a b lt =
    sum_within p q
    (omega (arith, a.samples, b.samples, lt))
    (omega (arith, a.counters, b.counters, lt))
    (omega (arith, a.calls, b.calls, lt))
    (omega (arith, a.runs, b.runs, lt))
    (omega (arith, a.pairs, b.pairs, lt))
    (omega (arith, a.addresses, b.addresses, lt))

pub rows_sum_within : (p q : Content) → HasRows 2000 2000 2000 p → HasRows 2000 2000 2000 q → IsWithin (sum_of p q)
rows_sum_within p q a b =
    sum_within p q
    (omega (arith, a.samples, b.samples))
    (omega (arith, a.counters, b.counters))
    (omega (arith, a.calls, b.calls))
    (omega (arith, a.runs, b.runs))
    (omega (arith, a.pairs, b.pairs))
    (omega (arith, a.addresses, b.addresses))
