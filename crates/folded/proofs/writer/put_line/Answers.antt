use Rattle.std.proofs.lemmas.Result.{err_from_is_err_and}
use Rattle.host_port.specs.declared.side.Side.TheVariants.{Output}
use Rattle.host_port.proofs.BufferLemmas.{adds_front, adds_then}
use Rattle.folded.specs.Paths.{functions_of}
use Rattle.folded.specs.Text.{count_text, line_text, stack_text}
use Rattle.folded.proofs.writer.put_line.Goals as goal

pub returns-in_err-put_stack : goal.returns-in_err-put_stack
unfolding line_text
returns-in_err-put_stack g c =
    let p = err_from_is_err_and c.from_residual.result c.from_residual.ensures.1 in
    rw p.1 (adds_front Output (stack_text c.args.symbols.now (functions_of c.args.prefix.now.path)) (count_text c.args.count) _ _ _ _ _ c.in_err-put_stack.ensures)

pub returns : goal.returns
unfolding line_text
returns g c = search (adds_then, c.in_ok-put_stack.ensures, c.put_count.ensures)
