use Rattle.std.proofs.Common.{arith, [], ◌∷◌, ◌+◌, None, inl, refl}
use Rattle.std.proofs.lemmas.Result.{err_from_is_err_and}
use Rattle.host_port.specs.Act.{Out}
use Rattle.host_port.specs.declared.side.Side.TheVariants.{Output}
use Rattle.text_lines.specs.Lines.{image_text}
use Rattle.courses.specs.Answer.{end_course, syms_lines}
use Rattle.courses.proofs.Standing.{fails, last_acts}
use Rattle.host_port.proofs.PerformingLemmas.{puts_performs}
use Rattle.rvgprof.proofs.syms.syms.Goals as goal

pub returns-in_err-image : goal.returns-in_err-image
returns-in_err-image g c =
    let p = err_from_is_err_and c.from_residual.result c.from_residual.ensures.1 in
    rw (p.1, p.2) (c.in_err-image.ensures.reads _ 0 syms_lines (omega arith) c.requires (λ contents bytes image. (inl refl, refl)))

pub returns-in-Ok : goal.returns-in-Ok
returns-in-Ok g c =
    let stands = c.in_ok-image.ensures.reads _ 0 syms_lines (omega arith) c.requires in
    let text = image_text c.in_ok-image.image in
    last_acts c.args.words.now _ _ _ (c.args.elf + 1) [] (Out text ∷ []) (record { run = None }) tt stands (puts_performs Output text _ _ _ c.in-Ok.ensures) refl

pub returns : goal.returns
returns g c =
    let stands = c.in_ok-image.ensures.reads _ 0 syms_lines (omega arith) c.requires in
    let text = image_text c.in_ok-image.image in
    fails c.args.words.now _ _ _ (c.args.elf + 1) [] (Out text ∷ []) end_course c.in-Err.field-0 stands (puts_performs Output text _ _ _ c.in-Err.ensures)
