-- The file of a run spells what was logged.
use Rattle.std.proofs.Common.{refl, sym, arith}
use Rattle.mcount_arcs.specs.Arcs.{arcs_of}
use Rattle.mcount_arcs.specs.Samples.{buckets_of}
use Rattle.mcount_arcs.proofs.BucketLemmas.{length-buckets_of}
use Rattle.mcount_arcs.proofs.SizeLemmas.{some_text}
use Rattle.gmon_cells.proofs.LogFitLemmas.{counters_fit, arcs_fit}
use Rattle.gmon_bsd.specs.Run.{bsd_run_text, spare_words, RunsAreSpelled, RunsAreReadBack}
use Rattle.gmon_bsd.proofs.SpellingLemmas.{accepted_where_spelled, only_where_spelled}

pub run_spelled : RunsAreSpelled
unfolding bsd_run_text
run_spelled z log rate sizes rate_fits calls = record {
  low = z.low;
  high = z.high;
  rate = rate;
  counters = buckets_of z log;
  arcs = arcs_of z log;
  spare = spare_words;
  form = refl;
  records = refl;
  text = refl;
  range = λ some. some_text z sizes;
  low_fits = omega (arith, some_text z sizes, sizes.end);
  high_fits = omega (arith, sizes.end);
  rate_fits = rate_fits;
  size_fits = omega (arith, length-buckets_of z log, sizes.few_counters);
  spare_fits = refl;
  counters_fit = counters_fit z log;
  arcs_fit = arcs_fit z log sizes calls;
}

pub run_read_back : RunsAreReadBack
run_read_back z log rate sizes rate_fits calls =
    let spelled = run_spelled z log rate sizes rate_fits calls in
    (accepted_where_spelled _ _ spelled, sym (only_where_spelled _ _ spelled))
