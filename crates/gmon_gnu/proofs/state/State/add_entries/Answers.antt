use Rattle.std.proofs.Common.{length, ap, arith}
use Rattle.std.proofs.lemmas.Result.{err_from_is_err_and}
use Rattle.gmon_data.proofs.LoopLemmas.{item_added, item_stopped, item_within, items_done}
use Rattle.gmon_data.proofs.RecordLemmas.{at_begin}
use Rattle.gmon_gnu.specs.Held.{no_entry}
use Rattle.gmon_gnu.proofs.AddingLemmas.{held_in_turn, item_at}
use Rattle.gmon_gnu.proofs.state.State.add_entries.Goals as goal

pub loop-i-init : goal.loop-i-init
loop-i-init c = at_begin _ _

pub add_entry-requires-clause-within : goal.add_entry-requires-clause-within
add_entry-requires-clause-within c =
    let at = item_at no_entry c.loop-i.i c.as_slice-entries.ensures.value c.loop-i-test.true in
    item_within (held_in_turn c.args.self.now) c.args.self.now.entries.items c.loop-i.i _ _ c.loop-i.invariant _ at c.requires.within

pub returns-in_err-add_entry-clause-stopped : goal.returns-in_err-add_entry-clause-stopped
returns-in_err-add_entry-clause-stopped c =
    let p = err_from_is_err_and c.from_residual.result c.from_residual.ensures.1 in
    let at = item_at no_entry c.loop-i.i c.as_slice-entries.ensures.value c.loop-i-test.true in
    rw (p.1, p.2) (item_stopped (held_in_turn c.args.self.now) c.args.self.now.entries.items c.loop-i.i _ _ c.loop-i.invariant _ at _ _ c.in_err-add_entry.ensures.stopped)

pub loop-i-preserved : goal.loop-i-preserved
loop-i-preserved c =
    let at = item_at no_entry c.loop-i.i c.as_slice-entries.ensures.value c.loop-i-test.true in
    item_added (held_in_turn c.args.self.now) c.args.self.now.entries.items c.loop-i.i _ _ c.loop-i.invariant _ at _ c.in_ok-add_entry.ensures.added

pub returns-clause-added : goal.returns-clause-added
returns-clause-added c =
    items_done (held_in_turn c.args.self.now) c.args.self.now.entries.items c.loop-i.i _ _ c.loop-i.invariant (omega (arith, c.loop-i-test.false, ap length c.as_slice-entries.ensures.value))
