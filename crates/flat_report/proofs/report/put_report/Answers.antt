use Rattle.std.proofs.lemmas.Result.{err_from_is_err_and}
use Rattle.host_port.specs.declared.side.Side.TheVariants.{Output}
use Rattle.host_port.proofs.BufferLemmas.{adds_then, adds_front}
use Rattle.flat_report.specs.FlatText.{flat_header}
use Rattle.flat_report.proofs.report.put_report.Goals as goal

pub returns-in_err-put_header : goal.returns-in_err-put_header
returns-in_err-put_header g c =
    let p = err_from_is_err_and c.from_residual.result c.from_residual.ensures.1 in
    rw p.1 (adds_front Output (flat_header c.args.sources.now.shares.now c.args.sources.now.rate) _ _ _ _ _ _ c.in_err-put_header.ensures)

pub returns : goal.returns
returns g c =
    let rows = rw c.attributed.ensures.value at c.put_rows.ensures in
    adds_then Output (flat_header c.args.sources.now.shares.now c.args.sources.now.rate) _ _ _ _ _ _ _ _ _ c.in_ok-put_header.ensures rows
