use Rattle.std.proofs.Common.{get_or, arith}
use Rattle.std.proofs.lemmas.List.{get_or_default}
use Rattle.std.proofs.lemmas.Result.{err_from_is_err_and}
use Rattle.gp_base.specs.declared.records.RawArc.{RawArc}
use Rattle.gmon_data.specs.Arcs.{entry_of}
use Rattle.gmon_data.specs.Content.{same_ends}
use Rattle.gmon_data.proofs.EntryLemmas.{PairIsOf32}
use Rattle.gmon_data.proofs.TallyLemmas.{next_fit, next_fits, next_tallied, tallied_partly}
use Rattle.gmon_data.proofs.arcs.Arcs.add_all.Goals as goal

abbrev no_arc : RawArc
no_arc = record { from = 0; to = 0; count = 0 }

pub add-requires : goal.add-requires
add-requires c =
    let arcs = c.args.arcs.now in
    let i = c.loop-arc.arc-index in
    let arc = get_or arcs i no_arc in
    let fits = next_fits same_ends entry_of arcs c.args.self.now c.loop-arc.self i c.loop-arc.invariant.added arc c.entry-count.result c.loop-arc-test.true (get_or_default arcs i no_arc arc c.loop-arc-test.true) c.entry-count.ensures.entry in
    omega (arith, fits, c.requires)

pub returns-in_err-add-clause-stopped : goal.returns-in_err-add-clause-stopped
returns-in_err-add-clause-stopped c =
    let arcs = c.args.arcs.now in
    let i = c.loop-arc.arc-index in
    let arc = get_or arcs i no_arc in
    let p = err_from_is_err_and c.from_residual.result c.from_residual.ensures.1 in
    rw p.1 (tallied_partly same_ends entry_of arcs c.args.self.now c.loop-arc.self i c.loop-arc.invariant.added arc c.entry-count.result c.loop-arc-test.true
    (get_or_default arcs i no_arc arc c.loop-arc-test.true) c.entry-count.ensures.entry _ c.in_err-add.ensures.unchanged)

pub loop-arc-preserved : goal.loop-arc-preserved
loop-arc-preserved c =
    let arcs = c.args.arcs.now in
    let i = c.loop-arc.arc-index in
    let arc = get_or arcs i no_arc in
    let added = c.in_ok-add.ensures.added in
    record {
      added = next_tallied same_ends entry_of arcs c.args.self.now c.loop-arc.self i c.loop-arc.invariant.added arc c.entry-count.result c.loop-arc-test.true
          (get_or_default arcs i no_arc arc c.loop-arc-test.true) c.entry-count.ensures.entry _ added;
      fit = λ all. next_fit same_ends PairIsOf32 c.loop-arc.self c.loop-arc.self c.add.new.self c.entry-count.result.0 c.entry-count.result.1 (λ k. c.loop-arc.self) added c.entry-count.ensures.fits (c.loop-arc.invariant.fit all);
      distinct = c.add.ensures.distinct;
    }
