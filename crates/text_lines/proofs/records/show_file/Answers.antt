use Rattle.host_port.specs.declared.side.Side.TheVariants.{Output}
use Rattle.host_port.proofs.BufferLemmas.{flushed}
use Rattle.gmon_files.specs.Viewed.{records_left}
use Rattle.text_lines.specs.Lines.{show_text}
use Rattle.text_lines.proofs.records.show_file.Goals as goal

pub returns : goal.returns
returns g c =
    flushed Output (show_text (records_left c.args.views)) _ _ _ _ _ _ _ _ c.new-lines.ensures c.flush.ensures.emptied c.in_ok-put_file.ensures c.flush.ensures.adds
