-- What profiles of rows hold at most, after what was added.
use Rattle.std.proofs.Common.{ℕ, ◌+◌, ◌<◌, ◌≤◌, Bool, true, false, Some, unwrap_or, nat_eq, if◌then◌else◌, arith}
use Rattle.gp_base.specs.declared.records.Unit as units
use Rattle.gmon_data.specs.declared.hist.Hist.{Hist}
use Rattle.gmon_data.specs.Content.{Content, same_ends, with_arc, with_block, with_hist, IsWithin}
use Rattle.gmon_data.specs.Hists.{has_counters, kept_unit, put_hist}
use Rattle.gmon_data.proofs.BoundLemmas.{counters_at_most, tally_at_most}
use Rattle.gmon_data.proofs.HistLemmas.{samples-put}
use Rattle.gmon_data.proofs.TallyLemmas.{sum-tally}
use Rattle.test_profiles.specs.Rows.{HasRows, IsOneCounter}

pub more_rows : (h h' a a' b b' : ℕ) (c : Content) → h ≤ h' → a ≤ a' → b ≤ b' → HasRows h a b c → HasRows h' a' b' c
more_rows h h' a a' b b' c le le' le'' r = record {
  samples = omega (arith, r.samples);
  counters = omega (arith, r.counters);
  calls = omega (arith, r.calls);
  pairs = omega (arith, r.pairs);
  runs = omega (arith, r.runs);
  addresses = omega (arith, r.addresses);
}

pub rows_within : (h a b : ℕ) (c : Content) → h ≤ 4000 → a ≤ 4000 → b ≤ 4000 → HasRows h a b c → IsWithin c
rows_within h a b c le le' le'' r = record {
  samples = omega (arith, r.samples);
  counters = omega (arith, r.counters);
  calls = omega (arith, r.calls);
  runs = omega (arith, r.runs);
  pairs = omega (arith, r.pairs);
  addresses = omega (arith, r.addresses);
}

module _ (h a b : ℕ) (c : Content) (r : HasRows h a b c) where
  pub one_hist : (hist : Hist) (u : units.Unit) → IsOneCounter hist → HasRows (h + 1) a b (with_hist hist u c)
  one_hist hist u one = by (has_counters hist)
    where
      by : (some : Bool) → HasRows (h + 1) a b (if some then record c { hists = put_hist hist c.hists; «unit» = Some (unwrap_or c.«unit» (kept_unit u)) } else c)
      by true = record {
        samples = omega (arith, r.samples, one.samples, samples-put hist c.hists);
        counters = omega (arith, r.counters, one.counters, counters_at_most hist c.hists);
        calls = r.calls;
        pairs = r.pairs;
        runs = r.runs;
        addresses = r.addresses;
      }
      by false = more_rows h (h + 1) a a b b c (omega arith) (omega arith) (omega arith) r

  pub one_arc : (from to count : ℕ) → count < 2147483648 → HasRows h (a + 1) b (with_arc from to count c)
  one_arc from to count few = record {
    samples = r.samples;
    counters = r.counters;
    calls = omega (arith, r.calls, sum-tally same_ends (from, to) count c.arcs);
    pairs = omega (arith, r.pairs, tally_at_most same_ends (from, to) count c.arcs);
    runs = r.runs;
    addresses = r.addresses;
  }

  pub one_block : (addr count : ℕ) → count < 2147483648 → HasRows h a (b + 1) (with_block addr count c)
  one_block addr count few = record {
    samples = r.samples;
    counters = r.counters;
    calls = r.calls;
    pairs = r.pairs;
    runs = omega (arith, r.runs, sum-tally nat_eq addr count c.blocks);
    addresses = omega (arith, r.addresses, tally_at_most nat_eq addr count c.blocks);
  }
