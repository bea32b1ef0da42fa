use Rattle.std.proofs.Common.{map, string_bytes}
use Rattle.std.proofs.lemmas.Result.{err_from_is_err_and}
use Rattle.host_port.specs.declared.side.Side.TheVariants.{Output}
use Rattle.host_port.proofs.BufferLemmas.{flushed, stopped}
use Rattle.flat_report.specs.FlatText.{text_of}
use Rattle.flat_report.specs.Rows.{entries_of_rows, sources_of}
use Rattle.flat_report.proofs.report.print.Goals as goal

pub returns-in_err-put_report : goal.returns-in_err-put_report
returns-in_err-put_report g c =
    let p = err_from_is_err_and c.from_residual.result c.from_residual.ensures.1 in
    rw p.1 (stopped Output (text_of (sources_of c.args.sources.now) (map string_bytes c.args.hidden.now) (entries_of_rows c.args.rows.now)) _ _ _ _ _ c.new-lines.ensures c.in_err-put_report.ensures)

pub returns : goal.returns
returns g c =
    flushed Output (text_of (sources_of c.args.sources.now) (map string_bytes c.args.hidden.now) (entries_of_rows c.args.rows.now)) _ _ _ _ _ _ _ _ c.new-lines.ensures c.flush.ensures.emptied c.in_ok-put_report.ensures c.flush.ensures.adds
