use Rattle.std.proofs.lemmas.Result.{err_from_is_err_and}
use Rattle.host_port.specs.declared.side.Side.TheVariants.{File}
use Rattle.host_port.proofs.BufferLemmas.{adds_nothing, adds_then, adds_front}
use Rattle.gmon_gnu.specs.Blocks.{pairs_bytes}
use Rattle.gmon_gnu.specs.Pieces.{blocks_front}
use Rattle.gmon_gnu.proofs.BlockTextLemmas.{no_record, record_text}
use Rattle.gmon_gnu.proofs.block_file.put_record.Goals as goal

pub returns-then-number-eq0-clause-adds : goal.returns-then-number-eq0-clause-adds
returns-then-number-eq0-clause-adds g c =
    let none = no_record c.args.low c.args.counts.now c.executed-number.result (c.executed-number.ensures c.args.low) c.if-number-eq0.true in
    rw none (adds_nothing File _ _ (tt {0}))

pub returns-in_err-put_front-clause-adds : goal.returns-in_err-put_front-clause-adds
returns-in_err-put_front-clause-adds g c =
    let p = err_from_is_err_and c.from_residual.result c.from_residual.ensures.1 in
    let n = c.executed-number.result in
    let text = record_text c.args.low c.args.counts.now n (c.executed-number.ensures c.args.low) c.if-number-eq0.false in
    rw (p.1, ← text) (adds_front File (blocks_front n) (pairs_bytes c.args.low c.args.counts.now) _ _ _ _ _ c.in_err-put_front.ensures.adds)

pub returns-clause-adds : goal.returns-clause-adds
returns-clause-adds g c =
    let n = c.executed-number.result in
    let text = record_text c.args.low c.args.counts.now n (c.executed-number.ensures c.args.low) c.if-number-eq0.false in
    rw (← text) (adds_then File (blocks_front n) (pairs_bytes c.args.low c.args.counts.now) _ _ _ _ _ _ (tt {0}) _ c.in_ok-put_front.ensures.adds c.put_pairs.ensures.adds)
