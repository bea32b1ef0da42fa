use Rattle.std.proofs.lemmas.Result.{err_from_is_err_and}
use Rattle.host_port.specs.declared.side.Side.TheVariants.{Output}
use Rattle.host_port.proofs.BufferLemmas.{adds_more, adds_stop}
use Rattle.text_lines.specs.Lines.{rec_text}
use Rattle.text_lines.proofs.records.put_recs.Goals as goal

pub returns-in_err-put_rec : goal.returns-in_err-put_rec
returns-in_err-put_rec g c =
    let p = err_from_is_err_and c.from_residual.result c.from_residual.ensures.1 in
    rw p.1 (adds_stop Output (rec_text c.args.form) c.args.recs.now c.loop-rec.rec-index c.rec-item.result _ _ _ _ _ _ _ _ c.loop-rec-test.true c.rec-item.is c.loop-rec.invariant c.in_err-put_rec.ensures)

pub loop-rec-preserved : goal.loop-rec-preserved
loop-rec-preserved g c =
    adds_more Output (rec_text c.args.form) c.args.recs.now c.loop-rec.rec-index c.rec-item.result _ _ _ _ _ _ _ _ c.loop-rec-test.true c.rec-item.is c.loop-rec.invariant c.in_ok-put_rec.ensures
