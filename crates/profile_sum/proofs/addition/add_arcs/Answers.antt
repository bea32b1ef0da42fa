use Rattle.std.proofs.Common.{map, refl, arith}
use Rattle.std.proofs.lemmas.Result.{err_from_is_err_and}
use Rattle.gmon_data.specs.declared.refusal.AddRefusal.TheVariants.{OutOfMemory}
use Rattle.gmon_data.proofs.LoopLemmas.{item_added, item_stopped, item_within, items_done, single}
use Rattle.gmon_data.proofs.RecordLemmas.{at_begin, one_added, stopped_before}
use Rattle.profile_sum.specs.Sum.{arc_record}
use Rattle.profile_sum.proofs.addition.add_arcs.Goals as goal

pub loop-i-init : goal.loop-i-init
loop-i-init c = at_begin (map arc_record c.args.more.now.arcs) c.args.total.now

pub add_calls-requires : goal.add_calls-requires
add_calls-requires c = item_within (single arc_record) c.args.more.now.arcs c.loop-i.i c.args.total.now c.loop-i.total c.loop-i.invariant ((c.arc-from.result.0, c.arc-from.result.1), c.arc-from.result.2) c.arc-from.ensures c.requires

pub loop-i-preserved : goal.loop-i-preserved
loop-i-preserved c =
    item_added (single arc_record) c.args.more.now.arcs c.loop-i.i c.args.total.now c.loop-i.total c.loop-i.invariant ((c.arc-from.result.0, c.arc-from.result.1), c.arc-from.result.2) c.arc-from.ensures _
    (one_added (arc_record ((c.arc-from.result.0, c.arc-from.result.1), c.arc-from.result.2)) c.loop-i.total _ refl c.in_ok-add_calls.ensures.added)

pub returns-in_err-add_calls-clause-stopped : goal.returns-in_err-add_calls-clause-stopped
returns-in_err-add_calls-clause-stopped c =
    let p = err_from_is_err_and c.from_residual.result c.from_residual.ensures.1 in
    rw p.1 (item_stopped (single arc_record) c.args.more.now.arcs c.loop-i.i c.args.total.now c.loop-i.total c.loop-i.invariant ((c.arc-from.result.0, c.arc-from.result.1), c.arc-from.result.2) c.arc-from.ensures OutOfMemory _
    (stopped_before OutOfMemory (arc_record ((c.arc-from.result.0, c.arc-from.result.1), c.arc-from.result.2)) c.loop-i.total _ c.in_err-add_calls.ensures.unchanged refl))

pub returns-clause-added : goal.returns-clause-added
returns-clause-added c = (items_done (single arc_record) c.args.more.now.arcs c.loop-i.i c.args.total.now c.loop-i.total c.loop-i.invariant (omega (arith, c.loop-i-test.false, c.arc_count-i-end.ensures.value))).added
