use Rattle.std.proofs.Common.{◌<◌, arith}
use Rattle.std.proofs.lemmas.List.FromFn.{length-range_with_len}
use Rattle.std.proofs.lemmas.Result.{err_from_is_err_and}
use Rattle.gmon_cells.proofs.PuttingLemmas.{from_zero, put_all, put_more, put_none, put_stop}
use Rattle.gmon_gnu.specs.Splitting.{most_calls, pieces_of}
use Rattle.gmon_gnu.proofs.profile_file.put_pair.Goals as goal

pub loop-j-init : goal.loop-j-init
loop-j-init g c = put_none c.requires

pub loop-j-preserved : goal.loop-j-preserved
loop-j-preserved g c =
    let below : c.loop-j.j < pieces_of most_calls c.args.calls = omega (arith, c.loop-j-test.true, c.pieces-j-end.ensures) in
    put_more (from_zero (pieces_of most_calls c.args.calls) c.loop-j.j below) c.loop-j.invariant (rw c.piece-count.ensures at c.in_ok-put_arc.ensures.adds)

pub returns-in_err-put_arc-clause-adds : goal.returns-in_err-put_arc-clause-adds
returns-in_err-put_arc-clause-adds g c =
    let p = err_from_is_err_and c.from_residual.result c.from_residual.ensures.1 in
    let below : c.loop-j.j < pieces_of most_calls c.args.calls = omega (arith, c.loop-j-test.true, c.pieces-j-end.ensures) in
    rw p.1 (put_stop (from_zero (pieces_of most_calls c.args.calls) c.loop-j.j below) c.loop-j.invariant (rw c.piece-count.ensures at c.in_err-put_arc.ensures.adds))

pub piece-count-requires : goal.piece-count-requires
piece-count-requires g c = omega (arith, c.loop-j-test.true, c.pieces-j-end.ensures)

pub returns-clause-adds : goal.returns-clause-adds
returns-clause-adds g c = put_all (omega (arith, c.loop-j-test.false, c.pieces-j-end.ensures, length-range_with_len 0 (pieces_of most_calls c.args.calls))) c.loop-j.invariant
