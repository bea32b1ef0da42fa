use Rattle.std.proofs.Common.{◌≤◌, ◌<◌, arith}
use Rattle.std.proofs.lemmas.Result.{err_from_is_err_and}
use Rattle.host_port.specs.declared.side.Side.TheVariants.{Output}
use Rattle.host_port.proofs.BufferLemmas.{adds_more, adds_stop, adds_all}
use Rattle.annotate.specs.Cells.{cells_of, word_count}
use Rattle.annotate.specs.Listing.{cell_line}
use Rattle.annotate.proofs.CellLemmas.{cell_inside, cell_at, cells_end}
use Rattle.annotate.proofs.report.put_cells.Goals as goal

pub returns-in_err-put : goal.returns-in_err-put
returns-in_err-put g c =
    let p = err_from_is_err_and c.from_residual.result c.from_residual.ensures.1 in
    let s = c.args.symbol.now in
    let k = c.loop-k.k in
    let below : k < word_count s = omega (arith, c.loop-k-test.true, c.cell_count-k-end.ensures) in
    let line = rw (c.bytes.ensures.bytes, c.cell-line.ensures) at c.in_err-put.ensures.adds in
    rw p.1 (adds_stop Output (cell_line c.args.segments.now c.args.bytes.now c.args.profile.now) (cells_of s) k c.cell.result _ _ _ _ _ _ tt _ (cell_inside s k below) (cell_at s k c.cell.result below c.cell.ensures.part) c.loop-k.invariant line)

pub loop-k-preserved : goal.loop-k-preserved
loop-k-preserved g c =
    let s = c.args.symbol.now in
    let k = c.loop-k.k in
    let below : k < word_count s = omega (arith, c.loop-k-test.true, c.cell_count-k-end.ensures) in
    let line = rw (c.bytes.ensures.bytes, c.cell-line.ensures) at c.in_ok-put.ensures.adds in
    adds_more Output (cell_line c.args.segments.now c.args.bytes.now c.args.profile.now) (cells_of s) k c.cell.result _ _ _ _ _ _ tt _ (cell_inside s k below) (cell_at s k c.cell.result below c.cell.ensures.part) c.loop-k.invariant line

pub returns : goal.returns
returns g c =
    let s = c.args.symbol.now in
    let all : word_count s ≤ c.loop-k.k = omega (arith, c.loop-k-test.false, c.cell_count-k-end.ensures) in
    adds_all Output (cell_line c.args.segments.now c.args.bytes.now c.args.profile.now) (cells_of s) c.loop-k.k _ _ _ _ _ (cells_end s c.loop-k.k all) c.loop-k.invariant
