use Rattle.host_port.specs.declared.side.Side.TheVariants.{Output}
use Rattle.host_port.proofs.BufferLemmas.{flushed}
use Rattle.annotate.specs.Listing.{annotated_text}
use Rattle.annotate.proofs.report.write.Goals as goal

pub returns : goal.returns
returns g c =
    flushed Output (annotated_text c.args.image.now c.args.bytes.now c.args.profile.now) _ _ _ _ _ _ _ _ c.new-lines.ensures c.flush.ensures.emptied c.in_ok-put_listing.ensures c.flush.ensures.adds
