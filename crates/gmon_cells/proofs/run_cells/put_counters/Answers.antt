use Rattle.std.proofs.lemmas.Result.{err_from_is_err_and}
use Rattle.gmon_cells.proofs.PuttingLemmas.{put_none, put_more, put_stop}
use Rattle.gmon_cells.proofs.run_cells.put_counters.Goals as goal

pub loop-i-init : goal.loop-i-init
loop-i-init g c = put_none c.requires

pub loop-i-preserved : goal.loop-i-preserved
loop-i-preserved g c = put_more c.counter.ensures.value c.loop-i.invariant (rw c.le2.ensures at c.in_ok-put.ensures.adds)

pub returns-in_err-put-clause-adds : goal.returns-in_err-put-clause-adds
returns-in_err-put-clause-adds g c =
    let p = err_from_is_err_and c.from_residual.result c.from_residual.ensures.1 in
    rw p.1 (put_stop c.counter.ensures.value c.loop-i.invariant (rw c.le2.ensures at c.in_err-put.ensures.adds))
