use Rattle.std.proofs.Common.{map, string_bytes, refl, arith}
use Rattle.std.specs.List.{enumerate_from}
use Rattle.std.proofs.lemmas.Result.{err_from_is_err_and}
use Rattle.host_port.specs.declared.side.Side.TheVariants.{Output}
use Rattle.host_port.proofs.BufferLemmas.{adds_nothing, adds_more, adds_stop, adds_all}
use Rattle.flat_report.specs.Rows.{entry_of_row, entries_of_rows}
use Rattle.flat_report.proofs.HiddenLemmas.{put_shown, shown_at}
use Rattle.flat_report.proofs.RowLemmas.{IsRowAt, numbered_long, numbered_inside, numbered_at, cumulative_more, cumulative_within, row_fits}
use Rattle.flat_report.proofs.report.put_rows.Goals as goal

pub loop-row-init : goal.loop-row-init
loop-row-init g c = record { cumulative = refl; lines = adds_nothing Output _ _ tt }

pub overflow_add-cumulative : goal.overflow_add-cumulative
overflow_add-cumulative g c =
    let here : IsRowAt c.args.rows.now c.loop-row.row-index c.loop-row.cumulative c.row-item.result = record { inside = c.loop-row-test.true; at = c.row-item.is; before = c.loop-row.invariant.cumulative } in
    omega (arith, cumulative_within _ _ _ _ here c.args.total c.requires.sum, c.requires.within)

pub put_row-requires-clause-cumulative : goal.put_row-requires-clause-cumulative
put_row-requires-clause-cumulative g c =
    let here : IsRowAt c.args.rows.now c.loop-row.row-index c.loop-row.cumulative c.row-item.result = record { inside = c.loop-row-test.true; at = c.row-item.is; before = c.loop-row.invariant.cumulative } in
    cumulative_within _ _ _ _ here c.args.total c.requires.sum

pub put_row-requires-clause-fits : goal.put_row-requires-clause-fits
put_row-requires-clause-fits g c =
    let here : IsRowAt c.args.rows.now c.loop-row.row-index c.loop-row.cumulative c.row-item.result = record { inside = c.loop-row-test.true; at = c.row-item.is; before = c.loop-row.invariant.cumulative } in
    row_fits _ _ _ _ here c.args.total c.requires.fit

pub returns-in_err-put_row : goal.returns-in_err-put_row
returns-in_err-put_row g c =
    let p = err_from_is_err_and c.from_residual.result c.from_residual.ensures.1 in
    let entries = entries_of_rows c.args.rows.now in
    let k = c.loop-row.row-index in
    let here : IsRowAt c.args.rows.now k c.loop-row.cumulative c.row-item.result = record { inside = c.loop-row-test.true; at = c.row-item.is; before = c.loop-row.invariant.cumulative } in
    let line = rw (cumulative_more _ _ _ _ here) at c.in_err-put_row.ensures in
    let hidden = map string_bytes c.args.hidden.now in
    rw p.1 (put_shown c.args.total c.args.rate hidden entries _ _ _ _ _
    (adds_stop Output (shown_at c.args.total c.args.rate hidden entries) (enumerate_from 0 entries) k (k, entry_of_row c.row-item.result) _ _ _ _ _ _ tt _ (numbered_inside _ _ _ _ here) (numbered_at _ _ _ _ here) c.loop-row.invariant.lines line))

pub loop-row-preserved : goal.loop-row-preserved
loop-row-preserved g c =
    let entries = entries_of_rows c.args.rows.now in
    let k = c.loop-row.row-index in
    let here : IsRowAt c.args.rows.now k c.loop-row.cumulative c.row-item.result = record { inside = c.loop-row-test.true; at = c.row-item.is; before = c.loop-row.invariant.cumulative } in
    let more = cumulative_more _ _ _ _ here in
    let line = rw more at c.in_ok-put_row.ensures in
    record {
      cumulative = more;
      lines = adds_more Output (shown_at c.args.total c.args.rate (map string_bytes c.args.hidden.now) entries) (enumerate_from 0 entries) k (k, entry_of_row c.row-item.result) _ _ _ _ _ _ tt _ (numbered_inside _ _ _ _ here) (numbered_at _ _ _ _ here) c.loop-row.invariant.lines line;
    }

pub returns : goal.returns
returns g c = search (numbered_long, string_bytes, put_shown, adds_all, shown_at)
