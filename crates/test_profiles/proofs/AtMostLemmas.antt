-- What a profile holds at most, after what was added.
use Rattle.std.proofs.Common.{ℕ, ◌+◌, ◌^◌, ◌<◌, ◌≤◌, Bool, true, false, nat_eq, Some, unwrap_or, length, sum, if◌then◌else◌, arith}
use Rattle.gp_base.specs.declared.records.Unit as units
use Rattle.gmon_data.specs.declared.hist.Hist.{Hist}
use Rattle.gmon_data.specs.Hists.{has_counters, kept_unit, put_hist}
use Rattle.gmon_data.specs.Content.{Content, empty_content, same_ends, with_arc, with_block, with_hist, IsWithin}
use Rattle.gmon_data.proofs.BoundLemmas.{counters_at_most, tally_at_most}
use Rattle.gmon_data.proofs.TallyLemmas.{sum-tally}
use Rattle.gmon_data.proofs.HistLemmas.{samples-put}
use Rattle.test_profiles.specs.AtMost.{IsAtMost}

pub within_at_most : (c : Content) (n : ℕ) → IsAtMost c n → n < 2 ^ 26 → IsWithin c
within_at_most c n a le = record {
  samples = omega (arith, a.samples, le);
  counters = omega (arith, a.counters, le);
  calls = omega (arith, a.calls, le);
  runs = omega (arith, a.runs, le);
  pairs = omega (arith, a.pairs, le);
  addresses = omega (arith, a.addresses, le);
}

pub more_at_most : (c : Content) (m n : ℕ) → m ≤ n → IsAtMost c m → IsAtMost c n
more_at_most c m n le a = record {
  samples = omega (arith, a.samples);
  counters = omega (arith, a.counters);
  calls = omega (arith, a.calls);
  runs = omega (arith, a.runs);
  pairs = omega (arith, a.pairs);
  addresses = omega (arith, a.addresses);
}

pub at_most_none : IsAtMost empty_content 0
at_most_none = record { samples = omega arith; counters = omega arith; calls = omega arith; runs = omega arith; pairs = omega arith; addresses = omega arith }

pub one_call_more : (from to : ℕ) (c : Content) (n : ℕ) → IsAtMost c n → IsAtMost (with_arc from to 1 c) (n + 1)
one_call_more from to c n a = record {
  samples = omega (arith, a.samples);
  counters = omega (arith, a.counters);
  runs = omega (arith, a.runs);
  addresses = omega (arith, a.addresses);
  calls = omega (arith, a.calls, sum-tally same_ends (from, to) 1 c.arcs);
  pairs = omega (arith, a.pairs, tally_at_most same_ends (from, to) 1 c.arcs);
}

pub one_run_more : (addr : ℕ) (c : Content) (n : ℕ) → IsAtMost c n → IsAtMost (with_block addr 1 c) (n + 1)
one_run_more addr c n a = record {
  samples = omega (arith, a.samples);
  counters = omega (arith, a.counters);
  calls = omega (arith, a.calls);
  pairs = omega (arith, a.pairs);
  runs = omega (arith, a.runs, sum-tally nat_eq addr 1 c.blocks);
  addresses = omega (arith, a.addresses, tally_at_most nat_eq addr 1 c.blocks);
}

pub one_hist_more : (h : Hist) (u : units.Unit) (c : Content) (n m : ℕ) → IsAtMost c n → sum h.counters ≤ m → length h.counters ≤ m → IsAtMost (with_hist h u c) (n + m)
one_hist_more h u c n m a few short = by (has_counters h)
  where
    by : (b : Bool) → IsAtMost (if b then record c { hists = put_hist h c.hists; «unit» = Some (unwrap_or c.«unit» (kept_unit u)) } else c) (n + m)
    by true = record {
      samples = omega (arith, a.samples, few, samples-put h c.hists);
      counters = omega (arith, a.counters, short, counters_at_most h c.hists);
      calls = omega (arith, a.calls);
      runs = omega (arith, a.runs);
      pairs = omega (arith, a.pairs);
      addresses = omega (arith, a.addresses);
    }
    by false = more_at_most c n (n + m) (omega arith) a
