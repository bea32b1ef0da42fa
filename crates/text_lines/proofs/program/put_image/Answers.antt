use Rattle.std.proofs.lemmas.Result.{err_from_is_err_and}
use Rattle.host_port.specs.declared.side.Side.TheVariants.{Output}
use Rattle.host_port.proofs.BufferLemmas.{adds_then, adds_front}
use Rattle.text_lines.specs.Lines.{image_text, image_line}
use Rattle.text_lines.proofs.program.put_image.Goals as goal

pub returns-in_err-put : goal.returns-in_err-put
unfolding image_text
returns-in_err-put g c =
    let p = err_from_is_err_and c.from_residual.result c.from_residual.ensures.1 in
    let line = rw (c.bytes.ensures.bytes, c.program.ensures) at c.in_err-put.ensures.adds in
    rw p.1 (adds_front Output (image_line c.args.image.now) _ _ _ _ _ _ line)

pub returns : goal.returns
unfolding image_text
returns g c =
    let line = rw (c.bytes.ensures.bytes, c.program.ensures) at c.in_ok-put.ensures.adds in
    let symbols = rw c.as_slice.ensures at c.put_symbols.ensures in
    adds_then Output (image_line c.args.image.now) _ _ _ _ _ _ _ _ _ line symbols
