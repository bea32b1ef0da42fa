use Rattle.std.proofs.Common.{◌≡◌, ap, ◌∙◌, arith}
use Rattle.std.proofs.lemmas.List.FromFn.{length-range_with_len}
use Rattle.std.proofs.lemmas.Result.{err_from_is_err_and}
use Rattle.gmon_cells.proofs.PuttingLemmas.{from_zero, put_all, put_more, put_none, put_stop}
use Rattle.gmon_gnu.specs.Splitting.{most_samples, pieces_of, largest}
use Rattle.gmon_gnu.proofs.profile_file.put_hist_pieces.Goals as goal

pub loop-j-init : goal.loop-j-init
loop-j-init g c = put_none c.requires.ready

pub loop-j-preserved : goal.loop-j-preserved
loop-j-preserved g c =
    let n = pieces_of most_samples (largest c.args.hist.now.counters) in
    let n_is : c.pieces-j-end.result ≡ n = c.pieces-j-end.ensures ∙ ap (pieces_of most_samples) (c.largest.ensures ∙ ap largest c.as_slice.ensures) in
    put_more (from_zero n c.loop-j.j (omega (arith, c.loop-j-test.true, n_is))) c.loop-j.invariant c.in_ok-put_hist_piece.ensures.adds

pub returns-in_err-put_hist_piece-clause-adds : goal.returns-in_err-put_hist_piece-clause-adds
returns-in_err-put_hist_piece-clause-adds g c =
    let p = err_from_is_err_and c.from_residual.result c.from_residual.ensures.1 in
    let n = pieces_of most_samples (largest c.args.hist.now.counters) in
    let n_is : c.pieces-j-end.result ≡ n = c.pieces-j-end.ensures ∙ ap (pieces_of most_samples) (c.largest.ensures ∙ ap largest c.as_slice.ensures) in
    rw p.1 (put_stop (from_zero n c.loop-j.j (omega (arith, c.loop-j-test.true, n_is))) c.loop-j.invariant c.in_err-put_hist_piece.ensures.adds)

pub put_hist_piece-requires-clause-within : goal.put_hist_piece-requires-clause-within
put_hist_piece-requires-clause-within g c = omega (arith, c.loop-j-test.true, c.pieces-j-end.ensures, c.largest.type_inv)

pub returns-clause-adds : goal.returns-clause-adds
returns-clause-adds g c =
    let n = pieces_of most_samples (largest c.args.hist.now.counters) in
    let n_is : c.pieces-j-end.result ≡ n = c.pieces-j-end.ensures ∙ ap (pieces_of most_samples) (c.largest.ensures ∙ ap largest c.as_slice.ensures) in
    put_all (omega (arith, c.loop-j-test.false, n_is, length-range_with_len 0 n)) c.loop-j.invariant
