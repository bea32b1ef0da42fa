-- The file of a run spells what was logged.
use Rattle.std.proofs.Common.{List, [], ◌∷◌, map, refl, sym, arith}
use Rattle.std.specs.List.{AllByRecursion}
use Rattle.gp_base.specs.declared.records.RawArc.{RawArc}
use Rattle.gp_base.specs.declared.records.Rec.TheVariants.{Arc}
use Rattle.mcount_arcs.specs.Arcs.{arcs_of}
use Rattle.mcount_arcs.proofs.BucketLemmas.{length-buckets_of}
use Rattle.mcount_arcs.proofs.SizeLemmas.{some_text}
use Rattle.gmon_cells.proofs.LogFitLemmas.{counters_fit, arcs_fit}
use Rattle.gp_base.specs.Fields.{ArcFits}
use Rattle.gmon_gnu.specs.Grammar.{RecFits}
use Rattle.gmon_gnu.specs.Run.{gnu_run_text, RunsAreSpelled, RunsAreReadBack}
use Rattle.gmon_gnu.proofs.SpellingLemmas.{accepted_where_spelled, only_where_spelled, written_spells}

recs_fit : (arcs : List RawArc) → AllByRecursion ArcFits arcs → AllByRecursion RecFits (map Arc arcs)
recs_fit [] fit = tt
recs_fit (arc ∷ arcs) fit = (fit.0, recs_fit arcs fit.1)

pub run_spelled : RunsAreSpelled
unfolding gnu_run_text
run_spelled z log rate sizes rate_fits calls = written_spells _ (
  record {
    low = omega (arith, some_text z sizes, sizes.end);
    high = omega (arith, sizes.end);
    number = omega (arith, length-buckets_of z log, sizes.few_counters);
    rate = rate_fits;
    dim = refl;
    counters = counters_fit z log;
    range = λ some. some_text z sizes;
  },
  recs_fit (arcs_of z log) (arcs_fit z log sizes calls),
)

pub run_read_back : RunsAreReadBack
run_read_back z log rate sizes rate_fits calls =
    let spelled = run_spelled z log rate sizes rate_fits calls in
    (accepted_where_spelled _ _ spelled, sym (only_where_spelled _ _ spelled))
