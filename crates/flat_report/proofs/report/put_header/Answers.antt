use Rattle.std.proofs.Common.{◌++◌}
use Rattle.std.specs.Prelude.{codes}
use Rattle.std.proofs.lemmas.Result.{err_from_is_err_and}
use Rattle.host_port.specs.declared.side.Side.TheVariants.{Output}
use Rattle.host_port.proofs.BufferLemmas.{adds_then, adds_front}
use Rattle.flat_report.specs.FlatText.{flat_header, totals_line}
use Rattle.flat_report.proofs.report.put_header.Goals as goal

pub returns-in_err-put : goal.returns-in_err-put
unfolding flat_header
returns-in_err-put g c =
    let p = err_from_is_err_and c.from_residual.result c.from_residual.ensures.1 in
    let totals = totals_line c.args.shares.now c.args.rate in
    rw p.1 (adds_front Output (codes "flat profile\n" ++ totals) _ _ _ _ _ _ (adds_front Output (codes "flat profile\n") totals _ _ _ _ _ c.in_err-put.ensures.adds))

pub returns-in_err-put-2 : goal.returns-in_err-put-2
unfolding flat_header
returns-in_err-put-2 g c =
    let p = err_from_is_err_and c.from_residual-in_err-put-2.result c.from_residual-in_err-put-2.ensures.1 in
    let totals = totals_line c.args.shares.now c.args.rate in
    let line = rw (c.bytes.ensures.bytes, c.totals.ensures) at c.in_err-put-2.ensures.adds in
    rw p.1 (adds_front Output (codes "flat profile\n" ++ totals) _ _ _ _ _ _ (adds_then Output (codes "flat profile\n") totals _ _ _ _ _ _ _ _ c.in_ok-put.ensures.adds line))

pub returns : goal.returns
unfolding flat_header
returns g c =
    let totals = totals_line c.args.shares.now c.args.rate in
    let line = rw (c.bytes.ensures.bytes, c.totals.ensures) at c.in_ok-put-2.ensures.adds in
    adds_then Output (codes "flat profile\n" ++ totals) _ _ _ _ _ _ _ _ _ (adds_then Output (codes "flat profile\n") totals _ _ _ _ _ _ _ _ c.in_ok-put.ensures.adds line) c.put-3.ensures.adds
