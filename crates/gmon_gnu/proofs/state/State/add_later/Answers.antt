use Rattle.std.proofs.lemmas.Option.{slice_get-get_or}
use Rattle.std.proofs.lemmas.Result.{err_from_is_err_and}
use Rattle.gmon_data.proofs.LoopLemmas.{item_added, item_stopped, item_within, items_done}
use Rattle.gmon_data.proofs.RecordLemmas.{at_begin}
use Rattle.gmon_gnu.specs.Held.{no_entry}
use Rattle.gmon_gnu.proofs.MakingLemmas.{later_in_turn}
use Rattle.gmon_gnu.proofs.state.State.add_later.Goals as goal

pub loop-i-init : goal.loop-i-init
loop-i-init c = at_begin _ _

pub add_hist-requires-clause-within : goal.add_hist-requires-clause-within
add_hist-requires-clause-within c =
    item_within (later_in_turn c.args.self.now) c.args.later.now c.loop-i.i _ _ c.loop-i.invariant _ (slice_get-get_or c.args.later.now c.loop-i.i no_entry c.loop-i-test.true) c.requires.within

pub returns-in_err-add_hist-clause-stopped : goal.returns-in_err-add_hist-clause-stopped
returns-in_err-add_hist-clause-stopped c =
    let p = err_from_is_err_and c.from_residual.result c.from_residual.ensures.1 in
    rw (p.1, p.2)
    (item_stopped (later_in_turn c.args.self.now) c.args.later.now c.loop-i.i _ _ c.loop-i.invariant _ (slice_get-get_or c.args.later.now c.loop-i.i no_entry c.loop-i-test.true) _ _ c.in_err-add_hist.ensures.stopped)

pub loop-i-preserved : goal.loop-i-preserved
loop-i-preserved c =
    item_added (later_in_turn c.args.self.now) c.args.later.now c.loop-i.i _ _ c.loop-i.invariant _ (slice_get-get_or c.args.later.now c.loop-i.i no_entry c.loop-i-test.true) _ c.in_ok-add_hist.ensures.added

pub returns-clause-added : goal.returns-clause-added
returns-clause-added c = items_done (later_in_turn c.args.self.now) c.args.later.now c.loop-i.i _ _ c.loop-i.invariant c.loop-i-test.false
