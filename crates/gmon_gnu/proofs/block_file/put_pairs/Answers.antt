use Rattle.std.proofs.Common.{length, arith}
use Rattle.std.proofs.lemmas.List.FromFn.{length-range_with_len}
use Rattle.std.proofs.lemmas.Result.{err_from_is_err_and}
use Rattle.gmon_cells.proofs.PuttingLemmas.{from_zero, put_all, put_more, put_none, put_stop}
use Rattle.gmon_gnu.proofs.block_file.put_pairs.Goals as goal

pub loop-i-init : goal.loop-i-init
loop-i-init g c = put_none c.requires.ready

pub loop-i-preserved : goal.loop-i-preserved
loop-i-preserved g c = put_more (from_zero (length c.args.counts.now) c.loop-i.i c.loop-i-test.true) c.loop-i.invariant c.in_ok-put_pair.ensures.adds

pub returns-in_err-put_pair-clause-adds : goal.returns-in_err-put_pair-clause-adds
returns-in_err-put_pair-clause-adds g c =
    let p = err_from_is_err_and c.from_residual.result c.from_residual.ensures.1 in
    rw p.1 (put_stop (from_zero (length c.args.counts.now) c.loop-i.i c.loop-i-test.true) c.loop-i.invariant c.in_err-put_pair.ensures.adds)

pub returns-clause-adds : goal.returns-clause-adds
returns-clause-adds g c = put_all (omega (arith, c.loop-i-test.false, length-range_with_len 0 (length c.args.counts.now))) c.loop-i.invariant
