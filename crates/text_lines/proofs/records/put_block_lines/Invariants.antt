use Rattle.std.proofs.Common.{take, Ok}
use Rattle.std.specs.List.{flat_map}
use Rattle.host_port.specs.declared.side.Side.TheVariants.{Output}
use Rattle.host_port.specs.Buffered.{Adds}
use Rattle.host_port.specs.declared.host.Failed.{Failed}
use Rattle.text_lines.specs.Lines.{block_line}
use Rattle.text_lines.specs.Pending.{pending}
use Rattle.text_lines.proofs.records.put_block_lines.Given as goal

-- the lines of the blocks so far are put
abbrev pub invariant-loop-block : goal.invariant-loop-block
invariant-loop-block g l =
    Adds {E = Failed} Output (flat_map block_line (take l.block-index l.blocks)) (pending l.initial.lines) (pending l.lines) (g.H.Host.outside l.initial.host) (g.H.Host.outside l.host) (Ok (tt {0}))
