use Rattle.host_port.specs.declared.side.Side.TheVariants.{Output}
use Rattle.host_port.proofs.BufferLemmas.{flushed}
use Rattle.graph_report.specs.ExactText.{exact_text}
use Rattle.graph_report.proofs.exact_report.write_exact.Goals as goal

pub returns : goal.returns
returns g c = flushed Output (exact_text c.args.symbols.now c.args.graph.now c.args.exact.now c.args.attributed) _ _ _ _ _ _ _ _ c.new-lines.ensures c.flush.ensures.emptied c.in_ok-put_all.ensures c.flush.ensures.adds
