use Rattle.host_port.proofs.BufferLemmas.{flushed}
use Rattle.folded.proofs.writer.write.Goals as goal

pub returns : goal.returns
returns g c = search (flushed, c.new-lines.ensures, c.flush.ensures.emptied, c.in_ok-put_text.ensures, c.flush.ensures.adds)
