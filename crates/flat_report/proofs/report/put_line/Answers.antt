use Rattle.std.proofs.Common.{◌++◌}
use Rattle.std.specs.Prelude.{codes}
use Rattle.std.proofs.lemmas.Result.{err_from_is_err_and}
use Rattle.host_port.specs.declared.side.Side.TheVariants.{Output}
use Rattle.host_port.proofs.BufferLemmas.{adds_then, adds_front}
use Rattle.flat_report.specs.FlatText.{line_of, columns_of}
use Rattle.flat_report.specs.Rows.{entry_of_row}
use Rattle.flat_report.proofs.report.put_line.Goals as goal

pub returns-in_err-put : goal.returns-in_err-put
unfolding line_of
returns-in_err-put g c =
    let p = err_from_is_err_and c.from_residual.result c.from_residual.ensures.1 in
    let columns = columns_of c.args.total c.args.rate c.args.cumulative (entry_of_row c.args.row.now) in
    let name = c.args.row.now.symbol.now.name in
    let front = rw (c.bytes.ensures.bytes, c.columns.ensures) at c.in_err-put.ensures.adds in
    rw p.1 (adds_front Output (columns ++ name) (codes "\n") _ _ _ _ _ (adds_front Output columns name _ _ _ _ _ front))

pub returns-in_err-put-2 : goal.returns-in_err-put-2
unfolding line_of
returns-in_err-put-2 g c =
    let p = err_from_is_err_and c.from_residual-in_err-put-2.result c.from_residual-in_err-put-2.ensures.1 in
    let columns = columns_of c.args.total c.args.rate c.args.cumulative (entry_of_row c.args.row.now) in
    let bytes = c.args.row.now.symbol.now.name in
    let front = rw (c.bytes.ensures.bytes, c.columns.ensures) at c.in_ok-put.ensures.adds in
    let name = rw c.as_slice.ensures at c.in_err-put-2.ensures.adds in
    rw p.1 (adds_front Output (columns ++ bytes) (codes "\n") _ _ _ _ _ (adds_then Output columns bytes _ _ _ _ _ _ _ _ front name))

pub returns : goal.returns
unfolding line_of
returns g c =
    let columns = columns_of c.args.total c.args.rate c.args.cumulative (entry_of_row c.args.row.now) in
    let bytes = c.args.row.now.symbol.now.name in
    let front = rw (c.bytes.ensures.bytes, c.columns.ensures) at c.in_ok-put.ensures.adds in
    let name = rw c.as_slice.ensures at c.in_ok-put-2.ensures.adds in
    adds_then Output (columns ++ bytes) (codes "\n") _ _ _ _ _ _ _ _ (adds_then Output columns bytes _ _ _ _ _ _ _ _ front name) c.put-3.ensures.adds
