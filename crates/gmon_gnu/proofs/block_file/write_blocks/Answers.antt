use Rattle.host_port.specs.declared.side.Side.TheVariants.{File}
use Rattle.host_port.proofs.BufferLemmas.{flushed}
use Rattle.gmon_gnu.specs.Blocks.{block_record}
use Rattle.gmon_gnu.proofs.block_file.write_blocks.Goals as goal

pub returns : goal.returns
returns g c = flushed File (block_record c.args.low c.args.counts.now) _ _ _ _ _ _ _ _ c.new-out.ensures c.flush.ensures.emptied c.in_ok-put_record.ensures.adds c.flush.ensures.adds
