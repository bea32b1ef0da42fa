use Rattle.std.proofs.Common.{Some, ap, sym, ◌∙◌}
use Rattle.std.proofs.lemmas.Option.{slice_get-get_or}
use Rattle.std.proofs.lemmas.Result.{err_from_is_err_and}
use Rattle.gmon_data.specs.Content.{wide_record, wide_records}
use Rattle.gmon_data.proofs.LoopLemmas.{item_added, item_stopped, item_within, items_done, joined}
use Rattle.gmon_data.proofs.RecordLemmas.{at_begin}
use Rattle.gmon_data.proofs.profile.Profile.add_each.Goals as goal

pub loop-rec-init : goal.loop-rec-init
loop-rec-init c = at_begin (wide_records c.args.recs.now) c.args.self.now

pub add_record-requires-clause-within : goal.add_record-requires-clause-within
add_record-requires-clause-within c =
    let rec = c.rec-item.result in
    let at = slice_get-get_or c.args.recs.now c.loop-rec.rec-index rec c.loop-rec-test.true ∙ ap (λ r. Some r) (sym c.rec-item.is) in
    item_within (joined wide_record) c.args.recs.now c.loop-rec.rec-index c.args.self.now c.loop-rec.self c.loop-rec.invariant rec at c.requires.within

pub returns-in_err-add_record-clause-stopped : goal.returns-in_err-add_record-clause-stopped
returns-in_err-add_record-clause-stopped c =
    let p = err_from_is_err_and c.from_residual.result c.from_residual.ensures.1 in
    let rec = c.rec-item.result in
    let at = slice_get-get_or c.args.recs.now c.loop-rec.rec-index rec c.loop-rec-test.true ∙ ap (λ r. Some r) (sym c.rec-item.is) in
    rw (p.1, p.2) (item_stopped (joined wide_record) c.args.recs.now c.loop-rec.rec-index c.args.self.now c.loop-rec.self c.loop-rec.invariant rec at _ _ c.in_err-add_record.ensures.stopped)

pub loop-rec-preserved : goal.loop-rec-preserved
loop-rec-preserved c =
    let rec = c.rec-item.result in
    let at = slice_get-get_or c.args.recs.now c.loop-rec.rec-index rec c.loop-rec-test.true ∙ ap (λ r. Some r) (sym c.rec-item.is) in
    item_added (joined wide_record) c.args.recs.now c.loop-rec.rec-index c.args.self.now c.loop-rec.self c.loop-rec.invariant rec at _ c.in_ok-add_record.ensures.added

pub returns-clause-added : goal.returns-clause-added
returns-clause-added c = items_done (joined wide_record) c.args.recs.now c.loop-rec.rec-index c.args.self.now c.loop-rec.self c.loop-rec.invariant c.loop-rec-test.false
