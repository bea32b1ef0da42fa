use Rattle.std.proofs.Common.{◌≡◌, ◌<◌, ◌≤◌, [], get_or, length, map, string_bytes, sym, ap, ◌∙◌, arith}
use Rattle.std.proofs.lemmas.List.{get_or_default, get_or-map, length-map}
use Rattle.std.proofs.lemmas.Result.{err_from_is_err_and}
use Rattle.host_port.specs.declared.side.Side.TheVariants.{Output}
use Rattle.host_port.proofs.BufferLemmas.{adds_all, adds_more, adds_stop}
use Rattle.graph_report.specs.Inputs.{sources_in}
use Rattle.graph_report.specs.Rows.{entries_of_rows, entry_of_row}
use Rattle.graph_report.specs.Subjects.{shown_text}
use Rattle.graph_report.specs.declared.rows.Row.{Row}
use Rattle.graph_report.specs.declared.subjects.Subject.TheVariants.{Cycle}
use Rattle.graph_report.proofs.NumberLemmas.{row_of_graph}
use Rattle.graph_report.proofs.PrintLemmas.{put_as}
use Rattle.graph_report.proofs.ReportLemmas.{whole_text}
use Rattle.graph_report.proofs.report.put_entries.Goals as goal

abbrev no_row : Row
no_row = record { subject = Cycle 0; total = 0; name = record { ref_ptr = (0, 0); now = [] } }

pub put_row-requires : goal.put_row-requires
put_row-requires g c =
    let rows = c.args.rows.now in
    let k = c.loop-row.row-index in
    let below : k < length rows = c.loop-row-test.true in
    record { subject = row_of_graph c.args.report.now.inputs rows k (get_or rows k no_row) c.requires.rows below (get_or_default rows k no_row _ below) }

pub returns-in_err-put_row : goal.returns-in_err-put_row
returns-in_err-put_row g c =
    let p = err_from_is_err_and c.from_residual.result c.from_residual.ensures.1 in
    let s = sources_in c.args.report.now.inputs in
    let rows = c.args.rows.now in
    let entries = entries_of_rows rows in
    let hidden = map string_bytes c.args.hidden.now in
    let k = c.loop-row.row-index in
    let row = get_or rows k no_row in
    let e = entry_of_row row in
    let below : k < length rows = c.loop-row-test.true in
    let inside : k < length entries = omega (arith, length-map rows entry_of_row) in
    let at : e ≡ get_or entries k e = ap entry_of_row (get_or_default rows k no_row row below) ∙ sym (get_or-map entry_of_row rows k row e below) in
    rw p.1 (put_as _ _ _ _ _ _ _ (whole_text s hidden entries c.requires.rows) (adds_stop Output (shown_text s hidden) entries k e _ _ _ _ _ _ tt _ inside at c.loop-row.invariant c.in_err-put_row.ensures))

pub loop-row-preserved : goal.loop-row-preserved
loop-row-preserved g c =
    let s = sources_in c.args.report.now.inputs in
    let rows = c.args.rows.now in
    let entries = entries_of_rows rows in
    let hidden = map string_bytes c.args.hidden.now in
    let k = c.loop-row.row-index in
    let row = get_or rows k no_row in
    let e = entry_of_row row in
    let below : k < length rows = c.loop-row-test.true in
    let inside : k < length entries = omega (arith, length-map rows entry_of_row) in
    let at : e ≡ get_or entries k e = ap entry_of_row (get_or_default rows k no_row row below) ∙ sym (get_or-map entry_of_row rows k row e below) in
    adds_more Output (shown_text s hidden) entries k e _ _ _ _ _ _ tt _ inside at c.loop-row.invariant c.in_ok-put_row.ensures

pub returns : goal.returns
returns g c =
    let s = sources_in c.args.report.now.inputs in
    let rows = c.args.rows.now in
    let entries = entries_of_rows rows in
    let hidden = map string_bytes c.args.hidden.now in
    let all : length entries ≤ c.loop-row.row-index = omega (arith, c.loop-row-test.false, length-map rows entry_of_row) in
    put_as _ _ _ _ _ _ _ (whole_text s hidden entries c.requires.rows) (adds_all Output (shown_text s hidden) entries c.loop-row.row-index _ _ _ _ _ all c.loop-row.invariant)
