use Rattle.host_port.specs.declared.side.Side.TheVariants.{Output}
use Rattle.host_port.proofs.BufferLemmas.{flushed}
use Rattle.text_lines.specs.Lines.{show_text}
use Rattle.text_lines.proofs.records.show_records.Goals as goal

pub returns : goal.returns
returns g c =
    flushed Output (show_text c.args.records.now) _ _ _ _ _ _ _ _ c.new-lines.ensures c.flush.ensures.emptied c.in_ok-put_records.ensures c.flush.ensures.adds
