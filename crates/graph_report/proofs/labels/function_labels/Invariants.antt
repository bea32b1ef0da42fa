use Rattle.std.proofs.Common.{◌≡◌}
use Rattle.call_cycles.specs.Sums.{list_of}
use Rattle.graph_report.specs.Entries.{number_in, graph_order}
use Rattle.graph_report.specs.Inputs.{sources_in}
use Rattle.graph_report.specs.Labels.{label_of}
use Rattle.graph_report.specs.Lists.{lists_below, start_of}
use Rattle.graph_report.proofs.labels.function_labels.Given as goal

-- those of the functions so far
abbrev pub invariant-loop-f : goal.invariant-loop-f
invariant-loop-f l =
    let of = label_of (sources_in l.inputs) (number_in (graph_order (sources_in l.inputs))) in
    record {
      text : l.text.items ≡ lists_below of l.f;
      starts : l.starts.items ≡ list_of l.f (start_of of);
    }
