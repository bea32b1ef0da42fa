use Rattle.std.proofs.Common.{get_or, refl}
use Rattle.std.specs.List.{enumerate_from}
use Rattle.std.proofs.lemmas.Result.{err_from_is_err_and}
use Rattle.std.proofs.lemmas.List.FromFn.{length-enumerate_from}
use Rattle.host_port.specs.declared.side.Side.TheVariants.{Output}
use Rattle.host_port.proofs.BufferLemmas.{adds_more, adds_stop, adds_all}
use Rattle.text_lines.specs.Lines.{counter_text}
use Rattle.text_lines.proofs.Numbered.{numbered, numbered_in_range}
use Rattle.text_lines.proofs.records.put_counters.Goals as goal

pub returns-in_err-put_counter : goal.returns-in_err-put_counter
returns-in_err-put_counter g c =
    let p = err_from_is_err_and c.from_residual.result c.from_residual.ensures.1 in
    let xs = c.args.counters.now in
    let i = c.loop-i.i in
    rw p.1 (adds_stop Output (counter_text c.args.head) (enumerate_from 0 xs) i (i, get_or xs i 0) _ _ _ _ _ _ tt _ (numbered_in_range xs xs i refl c.loop-i-test.true) (numbered xs xs i refl c.loop-i-test.true) c.loop-i.invariant c.in_err-put_counter.ensures)

pub loop-i-preserved : goal.loop-i-preserved
loop-i-preserved g c =
    let xs = c.args.counters.now in
    let i = c.loop-i.i in
    adds_more Output (counter_text c.args.head) (enumerate_from 0 xs) i (i, get_or xs i 0) _ _ _ _ _ _ tt _ (numbered_in_range xs xs i refl c.loop-i-test.true) (numbered xs xs i refl c.loop-i-test.true) c.loop-i.invariant c.in_ok-put_counter.ensures

pub returns : goal.returns
returns g c = search (length-enumerate_from, adds_all)
