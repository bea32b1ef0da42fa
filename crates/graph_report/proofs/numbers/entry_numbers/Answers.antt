use Rattle.std.proofs.Common.{◌≡◌, ◌<◌, ℕ, ◌+◌, ◌-◌, length, get_or, sym, ap, subst, ◌∙◌, arith, []}
use Rattle.std.proofs.lemmas.List.{get_or_default, get_or-map, length-map}
use Rattle.graph_report.specs.Rows.{entries_of_rows, entry_of_row}
use Rattle.graph_report.specs.declared.rows.Row.{Row}
use Rattle.graph_report.specs.declared.subjects.Subject.TheVariants.{Cycle}
use Rattle.graph_report.proofs.NumberLemmas.{AreNumbersFrom, number_put, all_numbers, row_inside}
use Rattle.graph_report.proofs.numbers.entry_numbers.Goals as goal

abbrev no_row : Row
no_row = record { subject = Cycle 0; total = 0; name = record { ref_ptr = (0, 0); now = [] } }

pub put_number-requires-clause-functions : goal.put_number-requires-clause-functions
put_number-requires-clause-functions c =
    let k = c.loop-i.i - 1 in
    let rows = c.args.rows.now in
    let row = get_or rows k no_row in
    let below : k < length rows = omega arith in
    let inside = row_inside c.args.inputs.now rows k row c.requires.rows below (get_or_default rows k no_row row below) in
    omega (arith, c.loop-i.invariant.function_count)

pub put_number-requires-clause-cycles : goal.put_number-requires-clause-cycles
put_number-requires-clause-cycles c =
    let k = c.loop-i.i - 1 in
    let rows = c.args.rows.now in
    let row = get_or rows k no_row in
    let below : k < length rows = omega arith in
    let inside = row_inside c.args.inputs.now rows k row c.requires.rows below (get_or_default rows k no_row row below) in
    omega (arith, c.loop-i.invariant.cycle_count)

pub loop-i-preserved : goal.loop-i-preserved
loop-i-preserved c =
    let k = c.loop-i.i - 1 in
    let rows = c.args.rows.now in
    let entries = entries_of_rows rows in
    let n = c.args.inputs.now.sources.graph.now.functions in
    let row = get_or rows k no_row in
    let e = entry_of_row row in
    let more : c.loop-i.i ≡ k + 1 = omega arith in
    let below : k < length rows = omega arith in
    let inside : k < length entries = omega (arith, length-map rows entry_of_row) in
    let at : e ≡ get_or entries k e = ap entry_of_row (get_or_default rows k no_row row below) ∙ sym (get_or-map entry_of_row rows k row e below) in
    let are = subst (λ (i : ℕ). AreNumbersFrom entries n i c.loop-i.numbers) more c.loop-i.invariant in
    search number_put

pub returns : goal.returns
returns c = grind (arith, all_numbers)
