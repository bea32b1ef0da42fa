-- The rows of entries.
use Rattle.std.specs.Prelude.{List, filter, map}
use Rattle.call_cycles.specs.Graph.{component_count, is_cycle}
use Rattle.call_cycles.specs.Sums.{numbers_below}
use Rattle.flat_report.specs.Sources.{Sources}
use Rattle.graph_report.specs.Entries.{GraphEntry, cycle_entry, function_entry, has_entry}
use Rattle.graph_report.specs.declared.rows.Row.{Row}

abbrev pub entry_of_row : Row → GraphEntry
entry_of_row row = record { subject = row.subject; total = row.total; name = row.name.now }

abbrev pub entries_of_rows : List Row → List GraphEntry
entries_of_rows rows = map entry_of_row rows

-- the cycles
abbrev pub cycle_entries : Sources → List GraphEntry
cycle_entries s = map (cycle_entry s) (filter (is_cycle s.graph) (numbers_below (component_count s.graph)))

-- the functions that have an entry
abbrev pub function_entries : Sources → List GraphEntry
function_entries s = map (function_entry s) (filter (has_entry s) (numbers_below s.graph.functions))
