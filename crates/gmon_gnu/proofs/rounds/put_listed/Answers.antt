use Rattle.std.proofs.lemmas.Option.{slice_get-get_or}
use Rattle.std.proofs.lemmas.Result.{err_from_is_err_and}
use Rattle.gmon_cells.proofs.PuttingLemmas.{put_more, put_none, put_stop}
use Rattle.gmon_gnu.proofs.rounds.put_listed.Goals as goal

pub loop-i-init : goal.loop-i-init
loop-i-init g c = put_none c.requires.ready

pub loop-i-preserved : goal.loop-i-preserved
loop-i-preserved g c = put_more (slice_get-get_or c.args.few.now c.loop-i.i (0, 0) c.loop-i-test.true) c.loop-i.invariant c.in_ok-put_block.ensures.adds

pub returns-in_err-put_block-clause-adds : goal.returns-in_err-put_block-clause-adds
returns-in_err-put_block-clause-adds g c =
    let p = err_from_is_err_and c.from_residual.result c.from_residual.ensures.1 in
    rw p.1 (put_stop (slice_get-get_or c.args.few.now c.loop-i.i (0, 0) c.loop-i-test.true) c.loop-i.invariant c.in_err-put_block.ensures.adds)
