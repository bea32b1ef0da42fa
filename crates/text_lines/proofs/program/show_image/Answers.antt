use Rattle.host_port.specs.declared.side.Side.TheVariants.{Output}
use Rattle.host_port.proofs.BufferLemmas.{flushed}
use Rattle.text_lines.specs.Lines.{image_text}
use Rattle.text_lines.proofs.program.show_image.Goals as goal

pub returns : goal.returns
returns g c = flushed Output (image_text c.args.image.now) _ _ _ _ _ _ _ _ c.new-lines.ensures c.flush.ensures.emptied c.in_ok-put_image.ensures c.flush.ensures.adds
