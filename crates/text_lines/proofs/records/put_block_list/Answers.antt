use Rattle.std.proofs.lemmas.Result.{err_from_is_err_and}
use Rattle.host_port.specs.declared.side.Side.TheVariants.{Output}
use Rattle.host_port.proofs.BufferLemmas.{adds_then, adds_front}
use Rattle.text_lines.specs.Lines.{blocks_line}
use Rattle.std.proofs.Common.{length}
use Rattle.text_lines.proofs.records.put_block_list.Goals as goal

pub returns-in_err-put_number_of_blocks : goal.returns-in_err-put_number_of_blocks
returns-in_err-put_number_of_blocks g c =
    let p = err_from_is_err_and c.from_residual.result c.from_residual.ensures.1 in
    rw p.1 (adds_front Output (blocks_line (length c.args.blocks.now)) _ _ _ _ _ _ c.in_err-put_number_of_blocks.ensures)

pub returns : goal.returns
returns g c =
    adds_then Output (blocks_line (length c.args.blocks.now)) _ _ _ _ _ _ _ _ _ c.in_ok-put_number_of_blocks.ensures c.put_block_lines.ensures
