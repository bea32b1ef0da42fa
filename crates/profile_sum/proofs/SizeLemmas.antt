-- How much the sum of two profiles holds at most.
use Rattle.std.proofs.Common.{◌≡◌, ℕ, ◌+◌, ◌≤◌, Bool, nat_eq, List, [], ◌∷◌, length, fold, sum, arith}
use Rattle.std.specs.List.{sum_by}
use Rattle.std.proofs.lemmas.List.Sums.{sum_by-cons}
use Rattle.gmon_data.specs.declared.hist.Hist.{Hist}
use Rattle.gmon_data.specs.Hists.{put_hist, samples_of}
use Rattle.gmon_data.specs.Tally.{tally, tally_total}
use Rattle.gmon_data.specs.Content.{Content, same_ends}
use Rattle.gmon_data.specs.Sizes.{IsOfBytes}
use Rattle.gmon_data.proofs.BoundLemmas.{counters_at_most, tally_at_most}
use Rattle.gmon_data.proofs.HistLemmas.{samples-put}
use Rattle.gmon_data.proofs.TallyLemmas.{sum-tally}
use Rattle.profile_sum.specs.Sum.{sum_of}

hists_sum : (qs ps : List Hist) → samples_of (fold (λ done h. put_hist h done) ps qs) ≡ samples_of ps + samples_of qs
hists_sum [] ps = omega arith
hists_sum (h ∷ qs) ps = omega (arith, hists_sum qs (put_hist h ps), samples-put h ps, sum_by-cons (λ (h : Hist). sum h.counters) h qs)

hists_counters : (qs ps : List Hist) → sum_by (λ h. length h.counters) (fold (λ done h. put_hist h done) ps qs) ≤ sum_by (λ h. length h.counters) ps + sum_by (λ h. length h.counters) qs
hists_counters [] ps = omega arith
hists_counters (h ∷ qs) ps = omega (arith, hists_counters qs (put_hist h ps), counters_at_most h ps, sum_by-cons (λ (h : Hist). length h.counters) h qs)

module _ {K : Type 0} (same : K → K → Bool) where
  abbrev all_tallied : List (K × ℕ) → List (K × ℕ) → List (K × ℕ)
  all_tallied ps qs = fold (λ done e. tally same e.0 e.1 done) ps qs

  totals_sum : (qs ps : List (K × ℕ)) → tally_total (all_tallied ps qs) ≡ tally_total ps + tally_total qs
  totals_sum [] ps = omega arith
  totals_sum (e ∷ qs) ps = omega (arith, totals_sum qs (tally same e.0 e.1 ps), sum-tally same e.0 e.1 ps, sum_by-cons (λ (e : K × ℕ). e.1) e qs)

  keys_sum : (qs ps : List (K × ℕ)) → length (all_tallied ps qs) ≤ length ps + length qs
  keys_sum [] ps = omega arith
  keys_sum (e ∷ qs) ps = omega (arith, keys_sum qs (tally same e.0 e.1 ps), tally_at_most same e.0 e.1 ps)

pub of_sum : (m n : ℕ) (p q : Content) → IsOfBytes m p → IsOfBytes n q → IsOfBytes (m + n) (sum_of p q)
of_sum m n p q first second = record {
  samples = omega (arith, first.samples, second.samples, hists_sum q.hists p.hists);
  counters = omega (arith, first.counters, second.counters, hists_counters q.hists p.hists);
  calls = omega (arith, first.calls, second.calls, totals_sum same_ends q.arcs p.arcs);
  runs = omega (arith, first.runs, second.runs, totals_sum nat_eq q.blocks p.blocks);
  pairs = omega (arith, first.pairs, second.pairs, keys_sum same_ends q.arcs p.arcs);
  addresses = omega (arith, first.addresses, second.addresses, keys_sum nat_eq q.blocks p.blocks);
}
