use Rattle.std.proofs.lemmas.Result.{err_from_is_err_and}
use Rattle.host_port.specs.declared.side.Side.TheVariants.{Output}
use Rattle.std.proofs.lemmas.List.{get_or_default}
use Rattle.host_port.proofs.BufferLemmas.{adds_more, adds_stop}
use Rattle.folded.specs.Paths.{caller_text}
use Rattle.folded.proofs.writer.put_callers.Goals as goal

pub returns-in_err-put_caller : goal.returns-in_err-put_caller
returns-in_err-put_caller g c =
    let p = err_from_is_err_and c.from_residual.result c.from_residual.ensures.1 in
    rw p.1 (adds_stop Output (caller_text c.args.symbols.now) c.args.callers.now c.loop-caller.caller-index _ _ _ _ _ _ _ tt _ c.loop-caller-test.true (get_or_default c.args.callers.now c.loop-caller.caller-index _ _ c.loop-caller-test.true) c.loop-caller.invariant c.in_err-put_caller.ensures)

pub loop-caller-preserved : goal.loop-caller-preserved
loop-caller-preserved g c =
    adds_more Output (caller_text c.args.symbols.now) c.args.callers.now c.loop-caller.caller-index _ _ _ _ _ _ _ tt _ c.loop-caller-test.true (get_or_default c.args.callers.now c.loop-caller.caller-index _ _ c.loop-caller-test.true) c.loop-caller.invariant c.in_ok-put_caller.ensures
