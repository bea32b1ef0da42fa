use Rattle.std.proofs.Common.{map, refl, arith}
use Rattle.std.proofs.lemmas.Result.{err_from_is_err_and}
use Rattle.gmon_data.specs.Content.{HistNumbersFit}
use Rattle.gmon_data.specs.Hists.{IsKept}
use Rattle.gmon_data.proofs.LoopLemmas.{at_all, item_added, item_stopped, item_within, items_done, single}
use Rattle.gmon_data.proofs.RecordLemmas.{at_begin, one_added, stopped_before, stopped_conflict}
use Rattle.profile_sum.specs.Sum.{hist_record}
use Rattle.profile_sum.proofs.addition.add_hists_of.Goals as goal

pub loop-i-init : goal.loop-i-init
loop-i-init c = at_begin (map (hist_record c.args.«unit») c.args.more.now.hists) c.args.total.now

pub add_wide-requires-clause-range : goal.add_wide-requires-clause-range
add_wide-requires-clause-range c = λ some. (at_all IsKept c.args.more.now.hists c.loop-i.i c.hist.result.now c.requires.more.hists c.hist.ensures).range

pub add_wide-requires-clause-count : goal.add_wide-requires-clause-count
add_wide-requires-clause-count c = (at_all HistNumbersFit c.args.more.now.hists c.loop-i.i c.hist.result.now c.requires.more.numbers.hists c.hist.ensures).2

pub add_wide-requires-clause-within : goal.add_wide-requires-clause-within
add_wide-requires-clause-within c = λ none. item_within (single (hist_record c.args.«unit»)) c.args.more.now.hists c.loop-i.i c.args.total.now c.loop-i.total c.loop-i.invariant c.hist.result.now c.hist.ensures c.requires.within

pub returns-in_err-add_wide-clause-refusal : goal.returns-in_err-add_wide-clause-refusal
returns-in_err-add_wide-clause-refusal c =
    let p = err_from_is_err_and c.from_residual.result c.from_residual.ensures.1 in
    let total = c.args.total.now in
    let hists = c.args.more.now.hists in
    let stopped = item_stopped (single (hist_record c.args.«unit»)) hists c.loop-i.i total c.loop-i.total c.loop-i.invariant c.hist.result.now c.hist.ensures c.in_err-add_wide.field-0.0 c.loop-i.total
    (stopped_before _ (hist_record c.args.«unit» c.hist.result.now) c.loop-i.total c.loop-i.total refl c.in_err-add_wide.ensures.refusal) in
    rw (p.1, p.2) (stopped_conflict _ (map (hist_record c.args.«unit») hists) total c.loop-i.total stopped)

pub returns-in_err-add_wide-clause-stopped : goal.returns-in_err-add_wide-clause-stopped
returns-in_err-add_wide-clause-stopped c =
    let p = err_from_is_err_and c.from_residual.result c.from_residual.ensures.1 in
    rw (p.1, p.2) (item_stopped (single (hist_record c.args.«unit»)) c.args.more.now.hists c.loop-i.i c.args.total.now c.loop-i.total c.loop-i.invariant c.hist.result.now c.hist.ensures _ _
    (stopped_before _ (hist_record c.args.«unit» c.hist.result.now) c.loop-i.total _ c.in_err-add_wide.ensures.unchanged c.in_err-add_wide.ensures.refusal))

pub loop-i-preserved : goal.loop-i-preserved
loop-i-preserved c =
    item_added (single (hist_record c.args.«unit»)) c.args.more.now.hists c.loop-i.i c.args.total.now c.loop-i.total c.loop-i.invariant c.hist.result.now c.hist.ensures _
    (one_added (hist_record c.args.«unit» c.hist.result.now) c.loop-i.total _ c.in_ok-add_wide.ensures.accepted c.in_ok-add_wide.ensures.added)

pub returns-clause-accepted : goal.returns-clause-accepted
returns-clause-accepted c = (items_done (single (hist_record c.args.«unit»)) c.args.more.now.hists c.loop-i.i c.args.total.now c.loop-i.total c.loop-i.invariant (omega (arith, c.loop-i-test.false, c.hist_count-i-end.ensures.value))).accepted

pub returns-clause-added : goal.returns-clause-added
returns-clause-added c = (items_done (single (hist_record c.args.«unit»)) c.args.more.now.hists c.loop-i.i c.args.total.now c.loop-i.total c.loop-i.invariant (omega (arith, c.loop-i-test.false, c.hist_count-i-end.ensures.value))).added
