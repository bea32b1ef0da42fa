use Rattle.std.proofs.Common.{map, refl, arith}
use Rattle.std.proofs.lemmas.Result.{err_from_is_err_and}
use Rattle.gmon_data.specs.declared.refusal.AddRefusal.TheVariants.{OutOfMemory}
use Rattle.gmon_data.proofs.LoopLemmas.{item_added, item_stopped, item_within, items_done, single}
use Rattle.gmon_data.proofs.RecordLemmas.{at_begin, one_added, stopped_before}
use Rattle.profile_sum.specs.Sum.{block_record}
use Rattle.profile_sum.proofs.addition.add_blocks.Goals as goal

pub loop-i-init : goal.loop-i-init
loop-i-init c = at_begin (map block_record c.args.more.now.blocks) c.args.total.now

pub add_runs-requires : goal.add_runs-requires
add_runs-requires c = item_within (single block_record) c.args.more.now.blocks c.loop-i.i c.args.total.now c.loop-i.total c.loop-i.invariant (c.block-addr.result.0, c.block-addr.result.1) c.block-addr.ensures c.requires

pub loop-i-preserved : goal.loop-i-preserved
loop-i-preserved c =
    item_added (single block_record) c.args.more.now.blocks c.loop-i.i c.args.total.now c.loop-i.total c.loop-i.invariant (c.block-addr.result.0, c.block-addr.result.1) c.block-addr.ensures _
    (one_added (block_record (c.block-addr.result.0, c.block-addr.result.1)) c.loop-i.total _ refl c.in_ok-add_runs.ensures.added)

pub returns-in_err-add_runs-clause-stopped : goal.returns-in_err-add_runs-clause-stopped
returns-in_err-add_runs-clause-stopped c =
    let p = err_from_is_err_and c.from_residual.result c.from_residual.ensures.1 in
    rw p.1 (item_stopped (single block_record) c.args.more.now.blocks c.loop-i.i c.args.total.now c.loop-i.total c.loop-i.invariant (c.block-addr.result.0, c.block-addr.result.1) c.block-addr.ensures OutOfMemory _
    (stopped_before OutOfMemory (block_record (c.block-addr.result.0, c.block-addr.result.1)) c.loop-i.total _ c.in_err-add_runs.ensures.unchanged refl))

pub returns-clause-added : goal.returns-clause-added
returns-clause-added c = (items_done (single block_record) c.args.more.now.blocks c.loop-i.i c.args.total.now c.loop-i.total c.loop-i.invariant (omega (arith, c.loop-i-test.false, c.block_count-i-end.ensures.value))).added
