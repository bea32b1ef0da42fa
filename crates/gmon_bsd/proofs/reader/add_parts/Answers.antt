use Rattle.std.proofs.Common.{[], ◌∷◌, map, refl}
use Rattle.std.proofs.lemmas.Result.{err_from_is_err_and}
use Rattle.gp_base.specs.Fields.{seconds}
use Rattle.gmon_data.specs.Content.{WideHist, hist_over, wide_arc}
use Rattle.gmon_data.proofs.NumberLemmas.{few_counters}
use Rattle.gmon_data.proofs.RecordLemmas.{added_both, arcs_added, one_added, stopped_second, within_first}
use Rattle.gmon_bsd.proofs.reader.add_parts.Goals as goal

pub add_counts-requires-clause-count : goal.add_counts-requires-clause-count
add_counts-requires-clause-count c =
    let hist = hist_over c.args.header.low c.args.header.high c.args.counters.now in
    let unit = seconds c.args.header.rate in
    few_counters hist unit c.args.profile.now (within_first (WideHist hist unit ∷ []) (map wide_arc c.args.arcs.now) c.args.profile.now c.requires.within)

pub add_counts-requires-clause-within : goal.add_counts-requires-clause-within
add_counts-requires-clause-within c = λ none.
    let hist = WideHist (hist_over c.args.header.low c.args.header.high c.args.counters.now) (seconds c.args.header.rate) in
    within_first (hist ∷ []) (map wide_arc c.args.arcs.now) c.args.profile.now c.requires.within

pub returns-in_err-add_arcs-clause-stopped : goal.returns-in_err-add_arcs-clause-stopped
returns-in_err-add_arcs-clause-stopped c =
    let p = err_from_is_err_and c.from_residual-in_err-add_arcs.result c.from_residual-in_err-add_arcs.ensures.1 in
    let hist = WideHist (hist_over c.args.header.low c.args.header.high c.args.counters.now) (seconds c.args.header.rate) in
    let arcs = map wide_arc c.args.arcs.now in
    let old = c.args.profile.now in
    let one = one_added hist old c.add_counts.new.self c.in_ok-add_counts.ensures.accepted c.in_ok-add_counts.ensures.added in
    rw (p.1, p.2) (stopped_second (hist ∷ []) arcs old c.add_counts.new.self one _ c.add_arcs.new.self (rw c.expect_records.ensures at c.in_err-add_arcs.ensures.stopped))

pub returns-clause-added : goal.returns-clause-added
returns-clause-added c =
    let hist = WideHist (hist_over c.args.header.low c.args.header.high c.args.counters.now) (seconds c.args.header.rate) in
    let arcs = map wide_arc c.args.arcs.now in
    let old = c.args.profile.now in
    let one = one_added hist old c.add_counts.new.self c.in_ok-add_counts.ensures.accepted c.in_ok-add_counts.ensures.added in
    let rest = arcs_added {some = c.args.arcs.now} refl c.add_counts.new.self c.add_arcs.new.self (rw c.expect_records.ensures at c.in_ok-add_arcs.ensures.added) in
    added_both (hist ∷ []) arcs old c.add_counts.new.self one c.add_arcs.new.self rest
