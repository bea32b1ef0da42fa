use Rattle.std.proofs.Common.{map, string_bytes}
use Rattle.host_port.specs.declared.side.Side.TheVariants.{Output}
use Rattle.host_port.proofs.BufferLemmas.{flushed}
use Rattle.graph_report.specs.GraphText.{graph_text}
use Rattle.graph_report.specs.Inputs.{sources_in}
use Rattle.graph_report.proofs.report.print.Goals as goal

pub returns : goal.returns
returns g c = flushed Output (graph_text (sources_in c.args.report.now.inputs) (map string_bytes c.args.hidden.now)) _ _ _ _ _ _ _ _ c.new-lines.ensures c.flush.ensures.emptied c.in_ok-put_report.ensures c.flush.ensures.adds
