use Rattle.std.proofs.lemmas.Result.{err_from_is_err_and}
use Rattle.host_port.specs.declared.side.Side.TheVariants.{Output}
use Rattle.host_port.proofs.BufferLemmas.{adds_then, adds_front}
use Rattle.text_lines.specs.Lines.{show_text, form_line}
use Rattle.text_lines.proofs.records.put_records.Goals as goal

pub returns-in_err-put_form : goal.returns-in_err-put_form
unfolding show_text
returns-in_err-put_form g c =
    let p = err_from_is_err_and c.from_residual.result c.from_residual.ensures.1 in
    rw p.1 (adds_front Output (form_line c.args.records.now.form) _ _ _ _ _ _ c.in_err-put_form.ensures)

pub returns : goal.returns
unfolding show_text
returns g c =
    let recs = rw c.as_slice.ensures at c.put_recs.ensures in
    adds_then Output (form_line c.args.records.now.form) _ _ _ _ _ _ _ _ _ c.in_ok-put_form.ensures recs
