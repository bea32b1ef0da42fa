use Rattle.std.proofs.lemmas.Result.{err_from_is_err_and}
use Rattle.gp_base.specs.Bytes.{le}
use Rattle.host_port.specs.declared.side.Side.TheVariants.{File}
use Rattle.host_port.proofs.BufferLemmas.{adds_nothing, adds_then, adds_front}
use Rattle.gmon_gnu.proofs.BlockTextLemmas.{pair_none, pair_some}
use Rattle.gmon_gnu.proofs.block_file.put_pair.Goals as goal

pub returns-then-count-eq0-clause-adds : goal.returns-then-count-eq0-clause-adds
returns-then-count-eq0-clause-adds g c = search (pair_none, adds_nothing, c.if-count-eq0.true)

pub returns-in_err-put-clause-adds : goal.returns-in_err-put-clause-adds
returns-in_err-put-clause-adds g c =
    let p = err_from_is_err_and c.from_residual.result c.from_residual.ensures.1 in
    let some = pair_some c.args.addr c.args.count c.if-count-eq0.false in
    let first = rw c.le4.ensures at c.in_err-put.ensures.adds in
    rw (p.1, ← some) (adds_front File (le c.args.addr 4) (le c.args.count 4) _ _ _ _ _ first)

pub returns-clause-adds : goal.returns-clause-adds
returns-clause-adds g c =
    let some = pair_some c.args.addr c.args.count c.if-count-eq0.false in
    let first = rw c.le4.ensures at c.in_ok-put.ensures.adds in
    let second = rw c.le4-2.ensures at c.put-2.ensures.adds in
    rw (← some) (adds_then File (le c.args.addr 4) (le c.args.count 4) _ _ _ _ _ _ (tt {0}) _ first second)
