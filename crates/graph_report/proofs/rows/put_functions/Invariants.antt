use Rattle.std.proofs.Common.{◌≡◌, ◌++◌, map}
use Rattle.std.specs.Prelude.{filter}
use Rattle.call_cycles.specs.Sums.{numbers_below}
use Rattle.graph_report.specs.Entries.{function_entry, has_entry}
use Rattle.graph_report.specs.Inputs.{sources_in}
use Rattle.graph_report.specs.Rows.{entries_of_rows}
use Rattle.graph_report.proofs.rows.put_functions.Given as goal

-- the entries of the functions so far
abbrev pub invariant-loop-f : goal.invariant-loop-f
invariant-loop-f l =
    entries_of_rows l.rows.items ≡ entries_of_rows l.initial.rows.items ++ map (function_entry (sources_in l.inputs)) (filter (has_entry (sources_in l.inputs)) (numbers_below l.f))
