use Rattle.std.proofs.lemmas.Result.{err_from_is_err_and}
use Rattle.host_port.specs.declared.side.Side.TheVariants.{Output}
use Rattle.host_port.proofs.BufferLemmas.{adds_then, adds_front}
use Rattle.gmon_files.specs.Viewed.{form_viewed}
use Rattle.text_lines.specs.Lines.{show_text, form_line}
use Rattle.text_lines.proofs.records.put_file.Goals as goal

pub returns-in_err-put_form : goal.returns-in_err-put_form
unfolding show_text
returns-in_err-put_form g c =
    let p = err_from_is_err_and c.from_residual.result c.from_residual.ensures.1 in
    let first = rw c.form-form.ensures at c.in_err-put_form.ensures in
    rw p.1 (adds_front Output (form_line (form_viewed c.args.views)) _ _ _ _ _ _ first)

pub returns : goal.returns
unfolding show_text
returns g c =
    let first = rw c.form-form.ensures at c.in_ok-put_form.ensures in
    let views = rw c.form-form.ensures at c.put_views.ensures in
    adds_then Output (form_line (form_viewed c.args.views)) _ _ _ _ _ _ _ _ _ first views
