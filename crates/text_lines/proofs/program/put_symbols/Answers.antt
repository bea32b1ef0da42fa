use Rattle.std.proofs.lemmas.Result.{err_from_is_err_and}
use Rattle.host_port.specs.declared.side.Side.TheVariants.{Output}
use Rattle.host_port.proofs.BufferLemmas.{adds_more, adds_stop}
use Rattle.text_lines.specs.Lines.{symbol_line}
use Rattle.text_lines.proofs.program.put_symbols.Goals as goal

pub returns-in_err-put_symbol : goal.returns-in_err-put_symbol
returns-in_err-put_symbol g c =
    let p = err_from_is_err_and c.from_residual.result c.from_residual.ensures.1 in
    rw p.1 (adds_stop Output symbol_line c.args.symbols.now c.loop-symbol.symbol-index c.symbol-item.result _ _ _ _ _ _ _ _ c.loop-symbol-test.true c.symbol-item.is c.loop-symbol.invariant c.in_err-put_symbol.ensures)

pub loop-symbol-preserved : goal.loop-symbol-preserved
loop-symbol-preserved g c =
    adds_more Output symbol_line c.args.symbols.now c.loop-symbol.symbol-index c.symbol-item.result _ _ _ _ _ _ _ _ c.loop-symbol-test.true c.symbol-item.is c.loop-symbol.invariant c.in_ok-put_symbol.ensures
