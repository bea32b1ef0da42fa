use Rattle.std.proofs.lemmas.Result.{err_from_is_err_and}
use Rattle.host_port.specs.declared.side.Side.TheVariants.{File}
use Rattle.host_port.proofs.BufferLemmas.{adds_then, adds_front}
use Rattle.gmon_gnu.specs.Pieces.{hist_header}
use Rattle.gmon_gnu.proofs.ProfileTextLemmas.{pieces_text, hist_piece_text}
use Rattle.gmon_gnu.proofs.profile_file.put_hist_piece.Goals as goal

pub returns-in_err-put-clause-adds : goal.returns-in_err-put-clause-adds
returns-in_err-put-clause-adds g c =
    let p = err_from_is_err_and c.from_residual.result c.from_residual.ensures.1 in
    let h = c.args.hist.now in
    let text = hist_piece_text c.args.«unit» h c.args.j in
    rw (p.1, ← text) (adds_front File (hist_header c.args.«unit» h) (pieces_text c.args.j h.counters) _ _ _ _ _ (rw c.hist_front.ensures at c.in_err-put.ensures.adds))

pub returns-clause-adds : goal.returns-clause-adds
returns-clause-adds g c =
    let h = c.args.hist.now in
    let text = hist_piece_text c.args.«unit» h c.args.j in
    let counters = rw c.as_slice.ensures at c.put_counters.ensures.adds in
    rw (← text) (adds_then File (hist_header c.args.«unit» h) (pieces_text c.args.j h.counters) _ _ _ _ _ _ (tt {0}) _ (rw c.hist_front.ensures at c.in_ok-put.ensures.adds) counters)
