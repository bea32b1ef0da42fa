use Rattle.std.proofs.Common.{get_or}
use Rattle.std.proofs.lemmas.Result.{err_from_is_err_and}
use Rattle.std.proofs.lemmas.List.{get_or_default}
use Rattle.host_port.specs.declared.side.Side.TheVariants.{Output}
use Rattle.host_port.proofs.BufferLemmas.{adds_more, adds_stop}
use Rattle.gp_base.specs.declared.records.RawBlock.{RawBlock}
use Rattle.text_lines.specs.Lines.{block_line}
use Rattle.text_lines.proofs.records.put_block_lines.Goals as goal

-- stands where there is no block
abbrev none : RawBlock
none = record { addr = 0; count = 0 }

pub returns-in_err-put_block_line : goal.returns-in_err-put_block_line
returns-in_err-put_block_line g c =
    let p = err_from_is_err_and c.from_residual.result c.from_residual.ensures.1 in
    rw p.1 (adds_stop Output block_line c.args.blocks.now c.loop-block.block-index (get_or c.args.blocks.now c.loop-block.block-index none) _ _ _ _ _ _ _ _ c.loop-block-test.true (get_or_default c.args.blocks.now c.loop-block.block-index none (get_or c.args.blocks.now c.loop-block.block-index none) c.loop-block-test.true) c.loop-block.invariant c.in_err-put_block_line.ensures)

pub loop-block-preserved : goal.loop-block-preserved
loop-block-preserved g c =
    adds_more Output block_line c.args.blocks.now c.loop-block.block-index (get_or c.args.blocks.now c.loop-block.block-index none) _ _ _ _ _ _ _ _ c.loop-block-test.true (get_or_default c.args.blocks.now c.loop-block.block-index none (get_or c.args.blocks.now c.loop-block.block-index none) c.loop-block-test.true) c.loop-block.invariant c.in_ok-put_block_line.ensures
