use Rattle.std.proofs.Common.{take, length, Ok}
use Rattle.std.specs.List.{flat_map, range_with_len}
use Rattle.host_port.specs.declared.side.Side.TheVariants.{Output}
use Rattle.host_port.specs.Buffered.{Adds}
use Rattle.host_port.specs.declared.host.Failed.{Failed}
use Rattle.folded.specs.Text.{function_line}
use Rattle.folded.proofs.writer.put_functions.Given as goal

abbrev pub invariant-loop-f : goal.invariant-loop-f
invariant-loop-f g l = Adds {E = Failed} Output (flat_map (function_line l.symbols l.folded.inclusive) (take l.f (range_with_len 0 (length l.folded.inclusive)))) l.initial.lines l.lines (g.H.Host.outside l.initial.host) (g.H.Host.outside l.host) (Ok (tt {0}))
