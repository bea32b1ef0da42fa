use Rattle.std.proofs.Common.{◌≡◌, ◌++◌, map}
use Rattle.std.specs.Prelude.{filter}
use Rattle.call_cycles.specs.Graph.{is_cycle}
use Rattle.call_cycles.specs.Sums.{numbers_below}
use Rattle.graph_report.specs.Entries.{cycle_entry}
use Rattle.graph_report.specs.Inputs.{sources_in}
use Rattle.graph_report.specs.Rows.{entries_of_rows}
use Rattle.graph_report.proofs.rows.put_cycles.Given as goal

-- the cycles of the components so far
abbrev pub invariant-loop-c : goal.invariant-loop-c
invariant-loop-c l =
    entries_of_rows l.rows.items ≡ entries_of_rows l.initial.rows.items ++ map (cycle_entry (sources_in l.inputs)) (filter (is_cycle l.inputs.sources.graph.now) (numbers_below l.c))
