use Rattle.std.proofs.lemmas.Result.{err_from_is_err_and}
use Rattle.host_port.specs.declared.side.Side.TheVariants.{Output}
use Rattle.host_port.proofs.BufferLemmas.{adds_then, adds_front}
use Rattle.gmon_cells.specs.Views.{hist_viewed}
use Rattle.text_lines.specs.Lines.{hist_line, hist_head}
use Rattle.text_lines.proofs.records.put_hist_view.Goals as goal

pub returns-in_err-put_head : goal.returns-in_err-put_head
returns-in_err-put_head g c =
    let p = err_from_is_err_and c.from_residual.result c.from_residual.ensures.1 in
    rw p.1 (adds_front Output (hist_line c.args.form (hist_head (hist_viewed c.args.hist))) _ _ _ _ _ _ c.in_err-put_head.ensures)

pub returns : goal.returns
returns g c =
    adds_then Output (hist_line c.args.form (hist_head (hist_viewed c.args.hist))) _ _ _ _ _ _ _ _ _ c.in_ok-put_head.ensures c.put_counters.ensures
