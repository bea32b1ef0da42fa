use Rattle.std.proofs.lemmas.Result.{err_from_is_err_and}
use Rattle.gmon_cells.proofs.PuttingLemmas.{put_more, put_none, put_stop}
use Rattle.gmon_gnu.proofs.PieceLemmas.{counters_few}
use Rattle.gmon_gnu.proofs.profile_file.put_hists_in.Goals as goal

pub loop-i-init : goal.loop-i-init
loop-i-init g c = put_none c.requires

pub loop-i-preserved : goal.loop-i-preserved
loop-i-preserved g c = put_more c.hist.ensures c.loop-i.invariant c.in_ok-put_hist_pieces.ensures.adds

pub returns-in_err-put_hist_pieces-clause-adds : goal.returns-in_err-put_hist_pieces-clause-adds
returns-in_err-put_hist_pieces-clause-adds g c =
    let p = err_from_is_err_and c.from_residual.result c.from_residual.ensures.1 in
    rw p.1 (put_stop c.hist.ensures c.loop-i.invariant c.in_err-put_hist_pieces.ensures.adds)

pub put_hist_pieces-requires-clause-few : goal.put_hist_pieces-requires-clause-few
put_hist_pieces-requires-clause-few g c = counters_few c.args.profile.now.hists c.loop-i.i c.hist.result.now c.hist.ensures c.hist_count-i-end.ensures.profile.within.counters
