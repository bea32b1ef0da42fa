use Rattle.std.proofs.lemmas.Result.{err_from_is_err_and}
use Rattle.host_port.proofs.BufferLemmas.{adds_nothing}
use Rattle.gmon_cells.proofs.PuttingLemmas.{put_more, put_none, put_stop}
use Rattle.gmon_gnu.proofs.RoundLemmas.{no_bytes}
use Rattle.gmon_gnu.proofs.rounds.put_part.Goals as goal

pub loop-k-init : goal.loop-k-init
loop-k-init g c = put_none c.requires.ready

pub loop-k-preserved : goal.loop-k-preserved
loop-k-preserved g c = put_more (rw c.start_of-start.ensures at c.part_block-addr.ensures.value) c.loop-k.invariant c.in_ok-put_block.ensures.adds

pub returns-in_err-put_block-clause-adds : goal.returns-in_err-put_block-clause-adds
returns-in_err-put_block-clause-adds g c =
    let p = err_from_is_err_and c.from_residual.result c.from_residual.ensures.1 in
    rw p.1 (put_stop (rw c.start_of-start.ensures at c.part_block-addr.ensures.value) c.loop-k.invariant c.in_err-put_block.ensures.adds)

pub returns-then-not-mark-clause-adds : goal.returns-then-not-mark-clause-adds
returns-then-not-mark-clause-adds g c = search (no_bytes, adds_nothing, c.requires.marked, c.if-not-mark.true)
